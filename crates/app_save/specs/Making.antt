-- A file while a store is made in it, and the store that is made.
use Rattle.std.specs.Prelude.{◌≡◌, ◌⊎◌, ◌+◌, ◌-◌, ◌*◌, ◌++◌, ◌∷◌, [], ◌≤◌, ℕ, List, length, replicate, slice_index}
use Rattle.disk_model.specs.Disk.{Image, Meaning, CountsUp}
use Rattle.app_save.specs.Store.{IsStore}
use Rattle.app_save.specs.Bytes.{slot_bytes}
use Rattle.app_save.specs.Saving.{LeavesOnly}

-- So many zeros.
pub record IsBlank (len : ℕ) (image : Image) : Type 0 where
  pub size : length image ≡ len
  pub zeros : (i : ℕ) → slice_index image i ≡ 0

-- No image that a crash now may leave is longer than this; none longer than 0 is one that is not empty.
abbrev pub NoneLonger : ℕ → Meaning → Type 0
NoneLonger len m = (c : Image) → m.leaves m.now c → length c ≤ len

-- Zeros alone, as many as a store with slots of S bytes has.
abbrev pub blank_store : ℕ → Image
blank_store S = replicate (2 * (S + 6)) 0

-- The same with this payload in slot 0, in generation 0 behind this gate. So the gate of slot 1 is closed and reads 0.
unfoldable pub store_behind : ℕ → ℕ → List ℕ → Image
store_behind gate S payload = slot_bytes gate 0 payload ++ replicate (2 * (S + 6) - (6 + length payload)) 0

-- A new store, byte by byte.
abbrev pub made_store : ℕ → List ℕ → Image
made_store S payload = store_behind 0xa5 S payload

-- It is a new store, or no store at all.
abbrev pub NewOrNone : ℕ → List ℕ → Image → Type 0
NewOrNone S payload image = (image ≡ made_store S payload) ⊎ ((T : ℕ) → IsStore T image → ⊥)

-- From this moment on one sync answers Ok for each of these images, one behind another, and then a crash leaves that
-- image alone. No other sync answers Ok.
abbrev pub SyncsThrough : Meaning → ℕ → List Image → Type 0
SyncsThrough m from [] = (u : ℕ) → from ≤ u → u ≤ m.now → m.syncs u ≡ m.syncs from
SyncsThrough m from (image ∷ images) = (at : ℕ) × (from ≤ at) × (at ≤ m.now)
    × CountsUp from at m.syncs m.syncs 1 × LeavesOnly m at image × SyncsThrough m at images

-- The file as the three syncs of a new store find it: zeros alone, all but an open gate, and the new store.
abbrev pub stages_made : ℕ → List ℕ → List Image
stages_made S payload = blank_store S ∷ store_behind 0 S payload ∷ made_store S payload ∷ []
