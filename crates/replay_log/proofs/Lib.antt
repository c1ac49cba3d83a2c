mod EntryLemmas
mod GeneratedLemmas
mod MakingLemmas
mod MessageLemmas
mod NumberLemmas
mod OneRecord
mod RecordLemmas
