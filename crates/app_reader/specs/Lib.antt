pub mod Pairs
pub mod Numbers
pub mod Tells
pub mod FormedFile
pub mod Checks
pub mod Passed
pub mod Entries
pub mod Ready
