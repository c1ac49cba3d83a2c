pub mod SoFar
pub mod ValueLemmas
pub mod PartLemmas
pub mod Lengths
pub mod PartSizes
