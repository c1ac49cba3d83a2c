pub mod Scopes
pub mod Values
