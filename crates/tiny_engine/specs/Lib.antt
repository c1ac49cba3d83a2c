pub mod Sys
pub mod Tiny
