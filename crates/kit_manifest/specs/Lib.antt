pub use Rattle.sed_value.specs.Names.{is_kit_name}
pub use Rattle.toml.specs.Data.{Members}
pub mod Fault
pub mod Reading
pub mod Walk
pub mod Order
pub mod Links
