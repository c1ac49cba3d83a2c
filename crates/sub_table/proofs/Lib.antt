pub mod MarkRowLemmas
mod FilterLemmas
mod OrderLemmas
mod LinkRowLemmas
mod KeptLemmas
mod LawLemmas
pub mod BitLemmas
pub mod HolderLemmas
pub mod RowLemmas
pub mod TableLemmas
pub mod WordLemmas
