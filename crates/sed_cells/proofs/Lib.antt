pub mod Growing
pub mod Numbers
pub mod Found
pub mod Kept
pub mod ClassesThere
pub mod Plans
pub mod Nearest
