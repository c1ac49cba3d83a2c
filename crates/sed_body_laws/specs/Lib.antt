pub mod Nesting
pub mod Levels
pub mod NestedBodies
pub mod TermHeight
pub mod Declared
pub mod Bodies
pub mod Neat
pub mod Trees
