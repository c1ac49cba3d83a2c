-- A disk in memory: the calls that were made, and what they leave when they are replayed.
use Rattle.std.specs.Prelude.{◌≡◌, ◌+◌, ◌<◌, ◌≤◌, ℕ, Bool, true, List, [], ◌∷◌, length, take, sum_by, Some, refl}
use Rattle.std.proofs.Common.{sym, subst, arith}
use Rattle.std.proofs.lemmas.List.{take_all}
use Rattle.disk_model.specs.Disk.{Image, Torn, Attached, Meaning, IsDisk}
use Rattle.sed_outside.specs.Failing.{Plan}
use Rattle.disk_model.specs.Written.{written, torn_written}

-- A recorded call, or a mark. A call that failed before it did anything is `other`, as is one that only asks.
pub data Call : Type 0 where
  wrote : ℕ → List ℕ → Call
  synced : Call
  other : Call
  marked : Call

-- The syncs that a call answers with Ok, the marks that it makes, and whether it counts as a call.
abbrev pub syncs_by : Call → ℕ
syncs_by (wrote at bytes) = 0
syncs_by synced = 1
syncs_by other = 0
syncs_by marked = 0

abbrev pub marks_by : Call → ℕ
marks_by (wrote at bytes) = 0
marks_by synced = 0
marks_by other = 0
marks_by marked = 1

-- The bytes that a call writes.
abbrev pub bytes_by : Call → ℕ
bytes_by (wrote at bytes) = length bytes
bytes_by synced = 0
bytes_by other = 0
bytes_by marked = 0

abbrev pub calls_by : Call → ℕ
calls_by (wrote at bytes) = 1
calls_by synced = 1
calls_by other = 1
calls_by marked = 0

-- What a read gives, what the last sync left, and the ranges that were written since, the last one first.
pub record State : Type 0 where
  pub content : Image
  pub on_disk : Image
  pub ranges : List (ℕ × ℕ)

abbrev pub begun : Image → State
begun first = record { content = first; on_disk = first; ranges = [] }

abbrev pub after : State → Call → State
after s (wrote at bytes) = record {
  content = written s.content at bytes;
  on_disk = s.on_disk;
  ranges = (at, length bytes) ∷ s.ranges;
}
after s synced = record { content = s.content; on_disk = s.content; ranges = [] }
after s other = s
after s marked = s

abbrev pub after_all : State → List Call → State
after_all s [] = s
after_all s (c ∷ calls) = after_all (after s c) calls

-- Each of these ranges may hold any bytes.
abbrev pub IsTornAll : Image → List (ℕ × ℕ) → Image → Type 0
IsTornAll on_disk [] image = image ≡ on_disk
IsTornAll on_disk (range ∷ ranges) image = (d : Image) × IsTornAll on_disk ranges d × Torn range.0 range.1 d image

-- A crash in this state may leave this image.
abbrev pub LeftIn : State → Image → Type 0
LeftIn s image = IsTornAll s.on_disk s.ranges image

-- What a disk in memory has been through: its file when it was made, the calls and marks since then, whether one of
-- these marks was made since the last call, what was attached, and how many calls failed and were made.
pub record History : Type 0 where
  pub first : Image
  pub calls : List Call
  pub is_marked : Bool
  pub attached : Attached
  pub faults : ℕ
  pub made : ℕ

-- What bounds a disk in memory: the size of its file and the bytes of all its writes, and the number of its calls.
pub record Bounds : Type 0 where
  pub room : ℕ
  pub limit : ℕ

-- A disk in memory: what it has been through, which calls fail by their number, and what bounds it.
pub record InMemory : Type 0 where
  pub history : History
  pub plan : Plan
  pub bounds : Bounds

-- There is room for one call more.
abbrev pub HasRoom : InMemory → Type 0
HasRoom d = sum_by calls_by d.history.calls < d.bounds.limit

-- There is room for so many bytes at this place, in the file and among all that was written.
pub record HasBytes (d : InMemory) (at n : ℕ) : Type 0 where
  pub file : at + n ≤ d.bounds.room
  pub all : sum_by bytes_by d.history.calls + n ≤ d.bounds.room

abbrev pub state_of : History → State
state_of h = after_all (begun h.first) h.calls

-- What it means. A moment is the number of calls and marks before it.
abbrev pub replayed : History → Meaning
replayed h = record {
  tells = true;
  content = (state_of h).content;
  leaves = λ u c. LeftIn (after_all (begun h.first) (take u h.calls)) c;
  now = length h.calls;
  tells_marks = true;
  marks = λ u. sum_by marks_by (take u h.calls);
  is_marked = h.is_marked;
  tells_syncs = true;
  syncs = λ u. sum_by syncs_by (take u h.calls);
  attached = Some h.attached;
  faults = h.faults;
  calls = h.made;
}

left_after : (s : State) (c : Call) → LeftIn s s.content → LeftIn (after s c) (after s c).content
left_after s (wrote at bytes) left = (s.content, left, torn_written s.content at bytes (length bytes) refl)
left_after s synced left = refl
left_after s other left = left
left_after s marked left = left

-- What a read gives is one of the images that a crash may leave.
pub content_is_left : (s : State) (calls : List Call) → LeftIn s s.content
    → LeftIn (after_all s calls) (after_all s calls).content
content_is_left s [] left = left
content_is_left s (c ∷ calls) left = content_is_left (after s c) calls (left_after s c left)

pub replayed_is_disk : (h : History) → IsDisk (replayed h)
replayed_is_disk h told =
    let all : take (length h.calls) h.calls ≡ h.calls = take_all (length h.calls) h.calls (omega arith) in
    subst (λ (l : List Call). LeftIn (after_all (begun h.first) l) (state_of h).content)
    (sym all) (content_is_left (begun h.first) h.calls refl)
