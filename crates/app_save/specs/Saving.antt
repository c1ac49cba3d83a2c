-- What a save leaves of a store, moment by moment.
use Rattle.std.specs.Prelude.{◌≡◌, ◌⊎◌, ◌+◌, ◌*◌, ◌%◌, ◌<◌, ◌≤◌, ◌++◌, ℕ, IsTrue, List, length, slice_index}
use Rattle.disk_model.specs.Disk.{Image, Meaning, Torn, IsTorn, Holds}
use Rattle.disk_model.specs.Written.{written}
use Rattle.app_save.specs.Bytes.{header_bytes, slot_bytes}
use Rattle.app_save.specs.Store.{IsOpen, IsStore, IsNewest, AreSlots, Opens, generation_at}

-- Every image that a crash now may leave is a whole store with slots of S bytes.
abbrev pub AllStores : ℕ → Meaning → Type 0
AllStores S m = (c : Image) → m.leaves m.now c → IsStore S c

-- Every image that a crash now may leave opens to this payload.
abbrev pub AllOpen : ℕ → List ℕ → Meaning → Type 0
AllOpen S payload m = (c : Image) → m.leaves m.now c → Opens S c payload

-- A crash at this moment leaves this image and no other.
abbrev pub LeavesOnly : Meaning → ℕ → Image → Type 0
LeavesOnly m u image = (c : Image) → m.leaves u c → c ≡ image

-- The image opens to what some image at the start opens to, or to the payload of this save.
pub record OpensAsBegun (S : ℕ) (payload : List ℕ) (start : Meaning) (image : Image) : Type 0 where
  pub opened : List ℕ
  pub opens : Opens S image opened
  pub is : ((d : Image) × start.leaves start.now d × Opens S d opened) ⊎ (opened ≡ payload)

-- At each moment behind a sync of this call that answered Ok, a crash leaves only images that have P.
abbrev pub SinceSync : Meaning → Meaning → (Image → Type 0) → Type 0
SinceSync old new P = (u : ℕ) (c : Image) → old.now ≤ u → u ≤ new.now
    → old.syncs old.now < new.syncs u → new.leaves u c → P c

-- One sync of this call answered Ok, where syncs are told.
abbrev pub SyncsOnce : Meaning → Meaning → Type 0
SyncsOnce old new = IsTrue old.tells_syncs → new.syncs new.now ≡ old.syncs old.now + 1

-- A page is 512 bytes of the payload from a multiple of 512 on; the last one is cut at the payload's length. Page q of
-- the payload stands in this image, whose payload begins there.
abbrev pub HasPage : ℕ → List ℕ → Image → ℕ → Type 0
HasPage begins payload image q = (i : ℕ) → 512 * q ≤ i → i < 512 * q + 512
    → i < length payload → slice_index image (begins + i) ≡ slice_index payload i

-- Each page of the payload that stood in the file stands in the image.
abbrev pub KeepsPages : ℕ → List ℕ → Image → Image → Type 0
KeepsPages begins payload file image = (q : ℕ) → HasPage begins payload file q → HasPage begins payload image q

-- So they do in the slot that a save of this file writes, the one that isn't newest.
abbrev pub KeepsEqualPages : ℕ → List ℕ → Image → Image → Type 0
KeepsEqualPages S payload file image = (slot other : ℕ) → AreSlots S slot other
    → IsNewest file slot other → KeepsPages (other + 6) payload file image

-- So it is of the newest slot of this file, and of the other one, which a save writes.
abbrev pub OfSlots : ℕ → Image → (ℕ → ℕ → Type 0) → Type 0
OfSlots S file P = (slot other : ℕ) → AreSlots S slot other → IsNewest file slot other → P slot other

-- The image is the file but for the bytes that a save of this payload writes: the gate, the length, the generation and
-- as many bytes behind them as the payload has, all in the slot that isn't newest.
abbrev pub TouchesSlot : ℕ → List ℕ → Image → Image → Type 0
TouchesSlot S payload file image = OfSlots S file (λ slot other. Torn other (6 + length payload) file image)

-- A gate is closed before anything is written behind it. Up to some moment a crash leaves what it could at the start,
-- but for the gate; from then on the gate reads 0, until all of these bytes stand behind it.
pub record ClosesFirst (gate : ℕ) (behind : List ℕ) (old new : Meaning) : Type 0 where
  pub from : ℕ
  pub later : old.now ≤ from
  pub before : (u : ℕ) (c : Image) → old.now ≤ u → u ≤ new.now → u < from → new.leaves u c → IsTorn gate 1 old c
  pub since : (u : ℕ) (c : Image) → from ≤ u → u ≤ new.now → new.leaves u c
      → (slice_index c gate ≡ 0) ⊎ Holds (gate + 1) behind c

-- So it is with the slot that isn't newest, where its gate is open: what is written behind it are the payload's length,
-- the next generation and the payload.
abbrev pub ClosesSlot : ℕ → List ℕ → Meaning → Meaning → Type 0
ClosesSlot S payload old new = OfSlots S old.content (λ slot other. IsOpen old.content other
    → ClosesFirst other (header_bytes ((generation_at old.content slot + 1) % 3) (length payload) ++ payload) old new)

-- Every crash leaves the file with the payload in the slot that wasn't newest, behind an open gate and in the
-- generation behind that of the newest one. All other bytes are those of the file.
abbrev pub WritesSlot : ℕ → List ℕ → Image → Meaning → Type 0
WritesSlot S payload file m = OfSlots S file (λ slot other. LeavesOnly m m.now
    (written file other (slot_bytes 0xa5 ((generation_at file slot + 1) % 3) payload)))

-- In every image that a crash leaves the slot that wasn't newest is, and its generation is the one behind.
abbrev pub Renews : ℕ → Image → Meaning → Type 0
Renews S file m = OfSlots S file (λ slot other. (c : Image) → m.leaves m.now c
    → IsNewest c other slot × (generation_at c other ≡ (generation_at file slot + 1) % 3))
