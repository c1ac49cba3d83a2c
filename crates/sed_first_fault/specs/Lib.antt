pub mod Integers
pub mod Texts
pub mod Nodes
pub mod Counts
pub mod Faults
pub mod Parts
