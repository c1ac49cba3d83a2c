pub mod Rows
pub mod Told
pub mod Grown
pub mod ElaboratedFaultless
pub mod Later
pub mod Made
mod Kept
mod Spelled
mod Trees
mod Expressions
mod Statements
mod Units
mod Texts
pub mod Called
pub mod MeantStanding
pub mod Defines
pub mod Agreeing
pub mod Inside
pub mod Whole
mod RunnableAsRead
mod First
mod AsRead
mod Keeping
mod Spelling
mod Standing
mod Used
mod Emptying
mod Naming
mod Bodying
mod Faultless
pub mod Loads
pub mod Ends
pub mod KitsUnits
pub mod Alike
mod Accepting
mod Outlines
mod BodyTrees
mod SpelledProgram
