-- What a disk means, and what each of its calls does to that.
use Rattle.std.specs.Prelude.{◌≡◌, ◌⊎◌, ◌+◌, ◌<◌, ◌≤◌, ◌↔◌, ℕ, Bool, IsTrue, List, length, slice_index}
use Rattle.std.specs.Prelude.{max, Option, Some, None, Result, OnOk}
use Rattle.sed_value.specs.declared.limits.TheConstants.{LARGEST_STORE}
use Rattle.sed_outside.specs.Counts.{one_more}

-- The bytes of a file.
abbrev pub Image : Type 0
Image = List ℕ

-- How often a name was attached, and the last one; and how many calls had been made before that was attached.
pub record Attached : Type 0 where
  pub count : ℕ
  pub name : List ℕ
  pub at : ℕ

-- What a disk means at one point of a run. Moments are numbers, and the run has come to `now`.
pub record Meaning : Type 1 where
  -- whether the next two are told
  pub tells : Bool
  -- what a read gives
  pub content : Image
  -- the images that a crash at a moment may leave
  pub leaves : ℕ → Image → Type 0
  pub now : ℕ
  -- whether marks are told, how many were made before a moment, and whether one was made since the last call
  pub tells_marks : Bool
  pub marks : ℕ → ℕ
  pub is_marked : Bool
  -- whether syncs are told, and how many answered Ok before a moment
  pub tells_syncs : Bool
  pub syncs : ℕ → ℕ
  -- what was attached, where it is told
  pub attached : Option Attached
  -- how many calls have failed
  pub faults : ℕ
  -- how many calls were made; it stands still at 2^64 - 1
  pub calls : ℕ

-- The length of the longest name that is attached.
abbrev pub longest_name : ℕ
longest_name = 4096

-- No write ends behind this place: two slots of 4,194,304 bytes, each with 6 more.
abbrev pub largest_store : ℕ
largest_store = LARGEST_STORE

-- Time goes on. What was told of a past moment stays, and so does which meanings are told.
pub record Elapses (old new : Meaning) : Type 0 where
  pub later : old.now ≤ new.now
  pub told : new.tells ≡ old.tells
  pub told_marks : new.tells_marks ≡ old.tells_marks
  pub told_syncs : new.tells_syncs ≡ old.tells_syncs
  pub past : IsTrue old.tells → (u : ℕ) (c : Image) → u ≤ old.now → new.leaves u c ↔ old.leaves u c
  pub past_marks : IsTrue old.tells_marks → (u : ℕ) → u ≤ old.now → new.marks u ≡ old.marks u
  pub past_syncs : IsTrue old.tells_syncs → (u : ℕ) → u ≤ old.now → new.syncs u ≡ old.syncs u

-- At each moment from old to new a crash leaves only images that have P.
abbrev pub During : Meaning → Meaning → (Image → Type 0) → Type 0
During old new P = (u : ℕ) (c : Image) → old.now ≤ u → u ≤ new.now → new.leaves u c → P c

-- A count before each moment, which stays until the last moment and is then larger by so many.
pub record CountsUp (old_now new_now : ℕ) (old new : ℕ → ℕ) (by : ℕ) : Type 0 where
  pub until : (u : ℕ) → old_now ≤ u → u < new_now → new u ≡ old old_now
  pub at_end : new new_now ≡ old old_now + by

-- So many marks are made, the last thing of all.
abbrev pub MarksUp : Meaning → Meaning → ℕ → Type 0
MarksUp old new by = IsTrue old.tells_marks → CountsUp old.now new.now old.marks new.marks by

-- So many syncs answer Ok, the last thing of all.
abbrev pub SyncsUp : Meaning → Meaning → ℕ → Type 0
SyncsUp old new by = IsTrue old.tells_syncs → CountsUp old.now new.now old.syncs new.syncs by

-- A name was attached once more, when so many calls had been made, and it is the last one.
abbrev pub Attaches : ℕ → Option Attached → Option Attached → List ℕ → Type 0
Attaches calls None None name = Unit {0}
Attaches calls (Some old) (Some new) name =
    (new.count ≡ one_more old.count) × (new.name ≡ name) × (new.at ≡ calls)
Attaches calls (Some old) None name = ⊥
Attaches calls None (Some new) name = ⊥

-- A write of n bytes that may be cut short anywhere: any bytes in its range and past the old end, elsewhere the same.
pub record Torn (at n : ℕ) (old new : Image) : Type 0 where
  pub same : (i : ℕ) → (i < at) ⊎ (at + n ≤ i) → i < length old → slice_index new i ≡ slice_index old i
  pub no_shorter : length old ≤ length new
  pub no_longer : length new ≤ max (length old) (at + n)

-- These bytes stand at this place.
pub record Holds (at : ℕ) (bytes : List ℕ) (image : Image) : Type 0 where
  pub room : at + length bytes ≤ length image
  pub bytes_are : (i : ℕ) → i < length bytes → slice_index image (at + i) ≡ slice_index bytes i

-- Nothing is written: a read gives the same, and a crash leaves nothing that it could not leave before.
pub record Keeps (old new : Meaning) : Type 0 where
  pub content : new.content ≡ old.content
  pub during : During old new (old.leaves old.now)

-- An image that a crash could leave at the start, with a write cut short.
abbrev pub IsTorn : ℕ → ℕ → Meaning → Image → Type 0
IsTorn at n old c = (d : Image) × old.leaves old.now d × Torn at n d c

-- These bytes are written at this place. A write that fails counts as written, and a read may then give any bytes
-- there.
pub record Writes {T E : Type 0} (at : ℕ) (bytes : List ℕ) (result : Result T E) (old new : Meaning) : Type 0 where
  pub torn : Torn at (length bytes) old.content new.content
  pub holds : OnOk result (Holds at bytes new.content)
  pub during : During old new (IsTorn at (length bytes) old)

-- What was written gets onto the disk: then a crash leaves what a read gives.
pub record Syncs {T E : Type 0} (result : Result T E) (old new : Meaning) : Type 0 where
  pub during : During old new (old.leaves old.now)
  pub kept : OnOk result (new.content ≡ old.content)
  pub durable : OnOk result ((c : Image) → new.leaves new.now c → c ≡ old.content)

-- The law of a disk: what a read gives is one of the images that a crash now may leave.
abbrev pub IsDisk : Meaning → Type 0
IsDisk m = IsTrue m.tells → m.leaves m.now m.content

-- Nothing waits for a sync: a crash now leaves what a read gives.
abbrev pub Rests : Meaning → Type 0
Rests m = (c : Image) → m.leaves m.now c → c ≡ m.content
