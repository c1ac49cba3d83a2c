pub mod Over
pub mod Cells
pub mod Potential
pub mod Fine
pub mod Rooted
