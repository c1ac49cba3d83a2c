pub mod Seen
pub mod Doings
pub mod Tops
pub mod Groups
pub mod Calling
