pub mod Reading
pub mod Plains
pub mod Settled
