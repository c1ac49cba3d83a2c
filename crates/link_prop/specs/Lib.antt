pub mod Linked
pub mod Ends
pub mod Marks
pub mod CycleMarks
