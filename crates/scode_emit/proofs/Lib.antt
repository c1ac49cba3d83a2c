pub mod Building
mod CodeExamples
mod StatementExamples
pub mod FormExamples
pub mod Counts
pub mod Sized
pub mod Few
pub mod Stand
pub mod RowLemmas
