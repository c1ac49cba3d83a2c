pub mod Depth
pub mod Kits
pub mod Texts
pub mod Free
pub mod Heads
pub mod Empty
