mod SlotLemmas
mod ValueLemmas
mod EngineLemmas
mod TypeLemmas
mod SpecLemmas
