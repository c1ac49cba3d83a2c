pub use Rattle.dasp_session.specs.Digest.{nonce_of, digest_of}
pub use Rattle.dasp_session.specs.UsersFile.{AreUsers, credential_of}
pub use Rattle.replay_log.specs.Bounds.{IsAllowed}
pub use Rattle.replay_log.specs.Generated.{IsGenerated}
pub mod Types
pub mod Slots
pub mod Spec
