pub mod TreeRows
pub mod Tree
pub mod Chains
pub mod Reached
pub mod Visits
pub mod Root
