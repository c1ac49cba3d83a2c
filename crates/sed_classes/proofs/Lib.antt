pub mod Lists
pub mod Places
pub mod FirstPlaces
pub mod Groups
pub mod Climbs
pub mod Ends
pub mod Counts
pub mod Below
mod SysExamples
