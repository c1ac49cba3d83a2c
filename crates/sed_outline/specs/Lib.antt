pub mod Rounds
pub mod Fits
pub mod Settled
pub mod Groups
