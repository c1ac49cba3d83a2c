pub use Rattle.sed_outside.specs.Steps
pub use Rattle.sed_outside.specs.Reads
pub use Rattle.dasp_session.specs.UsersFile
pub use Rattle.replay_log.specs.Record
pub use Rattle.scode_code.specs.Breaks
pub use Rattle.scode_image.specs.Grammar
pub mod Refusals
pub mod Inputs
