pub use Rattle.replay_log.specs.Bounds
pub mod Command
pub mod Asked
pub mod Run
pub mod Examples
pub mod Values
