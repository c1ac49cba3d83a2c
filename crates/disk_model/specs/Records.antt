-- What a call of a disk in memory adds to its record.
use Rattle.std.specs.Prelude.{◌≡◌, ◌++◌, ◌∷◌, [], IsTrue, false}
use Rattle.disk_model.specs.Replay.{Call, marked, InMemory, HasRoom}

-- This call is added, and no mark was made since. Where the record is full nothing is added, and the last mark stays
-- the last.
pub record Records (old new : InMemory) (call : Call) : Type 0 where
  pub first : new.history.first ≡ old.history.first
  pub added : HasRoom old → new.history.calls ≡ old.history.calls ++ call ∷ []
  pub unmarked : HasRoom old → new.history.is_marked ≡ false
  pub full : (HasRoom old → ⊥) → new.history.calls ≡ old.history.calls
  pub still : (HasRoom old → ⊥) → new.history.is_marked ≡ old.history.is_marked

-- A mark is added, unless one was made since the last call. It needs no room.
pub record RecordsMark (old new : InMemory) : Type 0 where
  pub first : new.history.first ≡ old.history.first
  pub again : IsTrue old.history.is_marked → new.history.calls ≡ old.history.calls
  pub added : old.history.is_marked ≡ false → new.history.calls ≡ old.history.calls ++ marked ∷ []
