pub mod Digits
pub mod Characters
