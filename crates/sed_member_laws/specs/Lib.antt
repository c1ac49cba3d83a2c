pub mod Faultless
pub mod Literals
pub mod Found
pub mod Alike
pub mod TypedHeads
