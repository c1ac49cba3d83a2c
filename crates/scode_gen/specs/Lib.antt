pub mod ImageFields
pub mod ImageSlots
pub mod FirstBytes
pub mod Classes
pub mod ClassParts
pub mod ClassRows
pub mod Generated
pub mod Parts
