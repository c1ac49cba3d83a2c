pub mod Values
pub mod Stands
pub mod Cells
pub mod References
