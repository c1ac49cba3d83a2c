pub mod Codes
pub mod Forms
pub mod Reading
pub mod Decoding
