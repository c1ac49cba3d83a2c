pub mod Behind
pub mod Kept
pub mod Live
pub mod Keeping
pub mod Changes
mod SlotFields
