mod BareSizes
mod Refused
pub mod FirstTooLong
