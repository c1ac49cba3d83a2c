pub use Rattle.sed_outside.specs.Steps
pub use Rattle.sed_outside.specs.Reads
pub mod Text
pub mod Refusals
pub mod Sources
