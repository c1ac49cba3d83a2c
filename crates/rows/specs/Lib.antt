pub mod Fields
pub mod Row
