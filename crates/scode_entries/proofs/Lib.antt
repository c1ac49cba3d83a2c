pub mod Building
mod EntryExamples
mod RootExamples
pub mod MarkRows
pub mod Declared
pub mod Once
pub mod Admits
pub mod SpelledCode
pub mod Ascend
pub mod Cuts
pub mod Tall
pub mod Entering
pub mod Exists
pub mod CaseRows
pub mod StackRows
pub mod Made
