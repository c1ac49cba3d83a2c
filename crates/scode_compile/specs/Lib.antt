pub use Rattle.scode_gen.specs.Generated
pub use Rattle.sed_engine.specs.Carries
pub mod Compiled
pub mod Alike
pub mod Right
