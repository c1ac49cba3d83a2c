pub mod AnsweredLemmas
pub mod AskedLemmas
pub mod LimitLemmas
pub mod ReadingLemmas
pub mod TextLemmas
pub mod WritingLemmas
