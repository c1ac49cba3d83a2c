pub mod TinyLemmas
pub mod WholeSys
pub mod CallerLemmas
