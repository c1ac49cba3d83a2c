pub mod Writes
pub mod Reaches
pub mod Strs
