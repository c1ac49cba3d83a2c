pub mod Made
pub mod Reaches
