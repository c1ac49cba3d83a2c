pub mod Images
pub mod Putting
pub mod PutParts
