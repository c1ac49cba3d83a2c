pub mod Names
pub mod Commas
pub mod Options
mod Added
mod Found
mod Steps
mod Pairs
