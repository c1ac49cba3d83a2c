pub mod ByRow
pub mod Building
pub mod Examples
pub mod Refusing
pub mod AnswerLemmas
pub mod RefusalLemmas
pub mod SaveLemmas
pub mod MarkLemmas
