mod Rooms
mod NestedExpressions
mod NestedStatements
pub mod Units
mod Sounds
mod Terms
mod Widths
mod Operands
mod Stores
mod Members
mod DeepExpressions
mod DeepStatements
pub mod DeepBodies
pub mod Numbers
pub mod Sound
pub mod Declared
pub mod Slots
pub mod Storable
pub mod Beginning
pub mod Bodies
mod NeatRules
mod NeatMembers
mod NeatExpressions
mod NeatStatements
mod Vectors
mod Chains
mod ExprTrees
mod StmtTrees
