-- What each call of a disk in memory leaves, but a mark.
use Rattle.std.specs.Prelude.{◌≡◌, ℕ}
use Rattle.sed_outside.specs.Cause.{HasCause}
use Rattle.sed_outside.specs.Counts.{one_more}
use Rattle.sed_outside.specs.Failing.{FailsNow, after_call}
use Rattle.disk_model.specs.Disk.{Elapses, MarksUp, SyncsUp}
use Rattle.disk_model.specs.Replay.{InMemory, HasRoom, replayed}

-- It is counted, it makes no mark, and so many syncs answer Ok. It fails where its number is among those that fail and
-- where the record is full, and each failure is a fault that is counted.
pub record IsCall (Failed : Type 0) (by : ℕ) (old new : InMemory) : Type 0 where
  pub time : Elapses (replayed old.history) (replayed new.history)
  pub marks : MarksUp (replayed old.history) (replayed new.history) 0
  pub syncs : SyncsUp (replayed old.history) (replayed new.history) by
  pub cause : HasCause old.history.faults new.history.faults Failed
  pub calls : new.history.made ≡ one_more old.history.made
  pub plan : new.plan ≡ after_call old.plan
  pub bounds : new.bounds ≡ old.bounds
  pub planned : FailsNow old.plan → Failed
  pub full : (HasRoom old → ⊥) → Failed
