pub mod Rows
pub mod Rests
pub mod Climbing
