pub mod Store
pub mod Bytes
pub mod Saving
pub mod Run
pub mod Slots
pub mod Stages
pub mod Making
