pub mod Rows
pub mod Text
pub mod Reading
pub mod Telling
pub mod Opens
pub mod Bytes
