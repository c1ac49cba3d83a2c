pub mod Reading
pub mod Loops
pub mod Whole
pub mod One
pub mod Places
pub mod Names
