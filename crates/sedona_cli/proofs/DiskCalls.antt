-- How one call of a disk follows another.
pub use Rattle.app_save.proofs.Moments.{then_time, then_during, at_end, no_time, no_marks, now_alone, then_marks}
