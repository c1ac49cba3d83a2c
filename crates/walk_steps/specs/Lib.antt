pub mod Seen
pub mod Stored
pub mod Found
pub mod Targets
