pub mod Entries
pub mod OneRead
pub mod Joining
pub mod One
pub mod Failing
pub mod Rows
pub mod ToldLemmas
pub mod RoundLemmas
