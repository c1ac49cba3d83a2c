pub mod Literals
pub mod Members
pub mod Calls
pub mod Places
pub mod Expressions
pub mod Inside
