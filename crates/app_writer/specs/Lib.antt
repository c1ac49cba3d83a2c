pub mod Written
pub mod Alone
