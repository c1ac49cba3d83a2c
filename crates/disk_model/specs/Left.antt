-- One image that a crash within a call may leave.
use Rattle.std.specs.Prelude.{◌+◌, ◌≤◌, ℕ, zero, suc, List, [], ◌∷◌, length, replicate}
use Rattle.disk_model.specs.Disk.{Image}
use Rattle.disk_model.specs.Replay.{Call, wrote, synced, other, marked}
use Rattle.disk_model.specs.Written.{written}
use Rattle.disk_model.specs.declared.left.Fill.{Fill}
use Rattle.disk_model.specs.declared.left.Fill.TheVariants.{Old, New, Byte}

-- What a range that waits for a sync holds: what it held at the last sync, what was written last, or one byte.
abbrev pub filled : Fill → Image → ℕ → List ℕ → Image
filled Old image at bytes = image
filled New image at bytes = written image at bytes
filled (Byte b) image at bytes = written image at (replicate (length bytes) b)

-- What a read gives, and the image that a crash leaves.
pub record Pair : Type 0 where
  pub content : Image
  pub image : Image

abbrev pub alike : Image → Pair
alike first = record { content = first; image = first }

abbrev pub with_call : Fill → Pair → Call → Pair
with_call fill p (wrote at bytes) =
    record { content = written p.content at bytes; image = filled fill p.image at bytes }
with_call fill p synced = alike p.content
with_call fill p other = p
with_call fill p marked = p

-- Within a call: a write has its range torn, and a sync has done nothing yet.
abbrev pub image_within : Fill → Pair → Call → Image
image_within fill p (wrote at bytes) = filled fill p.image at bytes
image_within fill p synced = p.image
image_within fill p other = p.image
image_within fill p marked = p.image

-- Within the call of this number, marks not is_call.
abbrev pub image_left : Fill → Pair → List Call → ℕ → Image
image_left fill p [] k = p.image
image_left fill p (marked ∷ calls) k = image_left fill p calls k
image_left fill p (wrote at bytes ∷ calls) zero = image_within fill p (wrote at bytes)
image_left fill p (wrote at bytes ∷ calls) (suc k) = image_left fill (with_call fill p (wrote at bytes)) calls k
image_left fill p (synced ∷ calls) zero = image_within fill p synced
image_left fill p (synced ∷ calls) (suc k) = image_left fill (with_call fill p synced) calls k
image_left fill p (other ∷ calls) zero = image_within fill p other
image_left fill p (other ∷ calls) (suc k) = image_left fill (with_call fill p other) calls k

-- How many calls and marks come before the call of this number.
abbrev pub place_of : List Call → ℕ → ℕ
place_of [] k = 0
place_of (marked ∷ calls) k = suc (place_of calls k)
place_of (wrote at bytes ∷ calls) zero = 0
place_of (wrote at bytes ∷ calls) (suc k) = suc (place_of calls k)
place_of (synced ∷ calls) zero = 0
place_of (synced ∷ calls) (suc k) = suc (place_of calls k)
place_of (other ∷ calls) zero = 0
place_of (other ∷ calls) (suc k) = suc (place_of calls k)

-- A moment of the call of this number: its beginning or its end.
abbrev pub IsMomentOf : List Call → ℕ → ℕ → Type 0
IsMomentOf calls k u = (place_of calls k ≤ u) × (u ≤ place_of calls k + 1)
