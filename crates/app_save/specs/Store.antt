-- What the bytes of a store are: two slots of S payload bytes, each behind 6 bytes of its own.
use Rattle.std.specs.Prelude.{◌≡◌, ◌≢◌, ◌⊎◌, ◌+◌, ◌*◌, ◌%◌, ◌<◌, ◌≤◌, ℕ, List, length, take, drop, slice_index}
use Rattle.sed_value.specs.declared.limits.TheConstants.{LARGEST_SLOT}
use Rattle.disk_model.specs.Disk.{Image}

-- A slot begins with its gate, which is open where it is this byte and no other.
abbrev pub IsOpen : Image → ℕ → Type 0
IsOpen image slot = slice_index image slot ≡ 0xa5

-- Four bytes of length, the highest first, and one of generation.
abbrev pub length_at : Image → ℕ → ℕ
length_at image slot = 16777216 * slice_index image (slot + 1) + 65536
    * slice_index image (slot + 2) + 256 * slice_index image (slot + 3) + slice_index image (slot + 4)

abbrev pub generation_at : Image → ℕ → ℕ
generation_at image slot = slice_index image (slot + 5)

-- The payload is as many of the slot's bytes as its length says.
abbrev pub payload_at : Image → ℕ → List ℕ
payload_at image slot = take (length_at image slot) (drop (slot + 6) image)

-- What an open slot keeps to.
pub record IsSlot (S : ℕ) (image : Image) (slot : ℕ) : Type 0 where
  pub generation : generation_at image slot < 3
  pub length : length_at image slot ≤ S

-- A whole store with slots of S bytes.
pub record IsStore (S : ℕ) (image : Image) : Type 0 where
  pub small : S ≤ LARGEST_SLOT
  pub size : length image ≡ 2 * (S + 6)
  pub some_open : IsOpen image 0 ⊎ IsOpen image (S + 6)
  pub first : IsOpen image 0 → IsSlot S image 0
  pub second : IsOpen image (S + 6) → IsSlot S image (S + 6)
  pub differ : IsOpen image 0 → IsOpen image (S + 6) → generation_at image 0 ≢ generation_at image (S + 6)

-- One slot and the other.
abbrev pub AreSlots : ℕ → ℕ → ℕ → Type 0
AreSlots S slot other = ((slot ≡ 0) × (other ≡ S + 6)) ⊎ ((slot ≡ S + 6) × (other ≡ 0))

-- The newest slot is the only open one, or the one whose generation is the other's plus 1, modulo 3.
pub record IsNewest (image : Image) (slot other : ℕ) : Type 0 where
  pub is_open : IsOpen image slot
  pub next : IsOpen image other → generation_at image slot ≡ (generation_at image other + 1) % 3

-- The image is a whole store with slots of S bytes, and this is the payload of its newest slot.
pub record Opens (S : ℕ) (image : Image) (payload : List ℕ) : Type 0 where
  pub store : IsStore S image
  pub slot : ℕ
  pub other : ℕ
  pub slots : AreSlots S slot other
  pub newest : IsNewest image slot other
  pub payload_is : payload_at image slot ≡ payload
