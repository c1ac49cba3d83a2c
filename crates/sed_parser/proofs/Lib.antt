pub mod Rest
pub mod Repeats
pub mod Levels
pub mod Nesting
pub mod Units
