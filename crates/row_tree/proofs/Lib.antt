pub mod TreePlaces
pub mod Chaining
pub mod Meeting
pub mod Trees
