pub mod FrontLemmas
pub mod LeafLemmas
pub mod NumberLemmas
pub mod ReadingLemmas
pub mod Rows
pub mod TextLemmas
pub mod ValueLemmas
pub mod WritingLemmas
