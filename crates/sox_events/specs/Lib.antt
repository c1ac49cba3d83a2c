pub mod Compared
pub mod Due
