pub mod Marks
pub mod Numbers
pub mod Strays
pub mod Firsts
pub mod Rounds
pub mod Sounds
pub mod Going
pub mod Watching
