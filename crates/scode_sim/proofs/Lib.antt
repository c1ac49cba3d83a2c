mod Apart
mod Arguments
mod Bodies
mod CallForms
mod CallSims
pub mod Callees
mod Comes
mod Context
mod Drops
mod Expressions
mod Fields
mod Follows
pub mod Frames
mod InvokeForms
mod Keeping
mod Leaves
mod Links
mod Located
mod Loops
mod NamedReads
mod Narrow
pub mod Objects
mod OldUpdates
mod Operations
mod Roots
pub mod Solids
mod Statements
pub mod Stores
mod Switches
mod TextForms
mod UpdateForms
mod Updates
mod VirtualSims
mod Waiting
mod WholeRoots
