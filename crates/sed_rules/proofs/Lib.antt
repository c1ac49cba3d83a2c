pub mod Reading
pub mod Kept
pub mod Chains
pub mod Rising
