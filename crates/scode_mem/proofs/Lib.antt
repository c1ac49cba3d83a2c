pub mod Bytes
pub mod Maps
pub mod Places
pub mod Moving
pub mod Changes
pub mod Told
pub mod BlockLaws
