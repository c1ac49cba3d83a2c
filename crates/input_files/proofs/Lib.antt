pub mod Reading
pub mod One
pub mod Ends
