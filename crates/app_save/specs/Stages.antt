-- What a store is at each stage of a save of this payload. The file is the one that the save began with.
use Rattle.std.specs.Prelude.{◌≡◌, ◌+◌, ◌*◌, ◌%◌, ◌≤◌, ℕ, List, length, IsTrue, Result, OnOk}
use Rattle.disk_model.specs.Disk.{Image, Meaning, During, IsTorn, Torn, Holds, Rests}
use Rattle.app_save.specs.Store.{IsOpen, IsSlot, IsNewest, length_at, generation_at, payload_at}
use Rattle.app_save.specs.Saving.{KeepsPages, SinceSync}

-- A whole store whose newest slot is this one.
pub record Stands (S : ℕ) (image : Image) (slot other : ℕ) : Type 0 where
  pub size : length image ≡ 2 * (S + 6)
  pub newest : IsNewest image slot other
  pub sound : IsSlot S image slot
  pub sound_other : IsOpen image other → IsSlot S image other

-- It stands for what the file does, and has the pages of the payload that the file has.
pub record Stays (S slot other : ℕ) (payload : List ℕ) (file image : Image) : Type 0 where
  pub stands : Stands S image slot other
  pub generation : generation_at image slot ≡ generation_at file slot
  pub payload_is : payload_at image slot ≡ payload_at file slot
  pub pages : KeepsPages (other + 6) payload file image

-- The other slot is closed.
pub record Closed (S slot other : ℕ) (payload : List ℕ) (file image : Image) : Type 0 where
  pub stays : Stays S slot other payload file image
  pub shut : IsOpen image other → ⊥

-- The other slot has everything but an open gate.
pub record Filled (S slot other : ℕ) (payload : List ℕ) (image : Image) : Type 0 where
  pub fits : length payload ≤ S
  pub generation : generation_at image other ≡ (generation_at image slot + 1) % 3
  pub length_is : length_at image other ≡ length payload
  pub payload_is : payload_at image other ≡ payload

-- The other slot is the newest one, and has the payload.
pub record Saved (S slot other : ℕ) (payload : List ℕ) (image : Image) : Type 0 where
  pub stands : Stands S image other slot
  pub payload_is : payload_at image other ≡ payload

-- Before and after each stage nothing waits for a sync.
pub record IsClosed (S slot other : ℕ) (payload : List ℕ) (file : Image) (m : Meaning) : Type 0 where
  pub rests : Rests m
  pub closed : Closed S slot other payload file m.content

pub record IsFilled (S slot other : ℕ) (payload : List ℕ) (file : Image) (m : Meaning) : Type 0 where
  pub rests : Rests m
  pub closed : Closed S slot other payload file m.content
  pub filled : Filled S slot other payload m.content

pub record IsSaved (S slot other : ℕ) (payload : List ℕ) (m : Meaning) : Type 0 where
  pub rests : Rests m
  pub saved : Saved S slot other payload m.content

-- These bytes are written at this place, and at Ok they are on the disk.
pub record Lands {T E : Type 0} (at : ℕ) (bytes : List ℕ) (result : Result T E) (old new : Meaning) : Type 0 where
  pub during : During old new (IsTorn at (length bytes) old)
  pub torn : OnOk result (Torn at (length bytes) old.content new.content)
  pub holds : OnOk result (Holds at bytes new.content)
  pub rests : OnOk result (Rests new)

-- Nothing is written. At each moment behind the first sync that answers Ok a crash leaves what a read gave at the
-- start, and so it does after Ok, where a read gives the same.
pub record Settled {T E : Type 0} (result : Result T E) (old new : Meaning) : Type 0 where
  pub during : During old new (old.leaves old.now)
  pub since : IsTrue old.tells_syncs → SinceSync old new (λ c. c ≡ old.content)
  pub kept : OnOk result (new.content ≡ old.content)
  pub rests : OnOk result (Rests new)
