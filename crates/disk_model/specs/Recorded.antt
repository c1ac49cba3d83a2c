-- The entries of a record, with the bytes of all writes one behind the other.
use Rattle.std.specs.Prelude.{ℕ, ◌≡◌, ◌+◌, ◌<◌, ◌≤◌, Bool, true, false, List, [], ◌∷◌, ◌++◌, length, take, drop, sum_by}
use Rattle.disk_model.specs.Disk.{Image}
use Rattle.disk_model.specs.Held.{Held}
use Rattle.disk_model.specs.Replay.{Call, wrote, synced, other, marked, begun, after_all}
use Rattle.disk_model.specs.declared.journal.Entry.{Entry}
use Rattle.disk_model.specs.declared.journal.Entry.TheVariants.{Wrote, Synced, Other, Marked}

-- The entries so far, whether a mark was made since the last call, and how many calls there may be.
pub record Tape : Type 0 where
  pub entries : List Entry
  pub is_marked : Bool
  pub limit : ℕ

-- With one call more.
abbrev pub with_entry : Tape → Entry → Tape
with_entry tape entry = record { entries = tape.entries ++ entry ∷ []; is_marked = false; limit = tape.limit }

-- With a mark more.
abbrev pub with_mark : Tape → Tape
with_mark tape = record { entries = tape.entries ++ Marked ∷ []; is_marked = true; limit = tape.limit }

-- The call that an entry is, where the bytes of its write come first, and the bytes behind them.
abbrev pub call_of : List ℕ → Entry → Call
call_of log (Wrote at len) = wrote at (take len log)
call_of log Synced = synced
call_of log Other = other
call_of log Marked = marked

abbrev pub bytes_behind : List ℕ → Entry → List ℕ
bytes_behind log (Wrote at len) = drop len log
bytes_behind log Synced = log
bytes_behind log Other = log
bytes_behind log Marked = log

-- The calls that the entries are.
abbrev pub calls_of : List ℕ → List Entry → List Call
calls_of log [] = []
calls_of log (e ∷ entries) = call_of log e ∷ calls_of (bytes_behind log e) entries

-- The bytes of their writes.
abbrev pub size_of : Entry → ℕ
size_of (Wrote at len) = len
size_of Synced = 0
size_of Other = 0
size_of Marked = 0

-- Whether an entry counts as a call.
abbrev pub is_call : Entry → ℕ
is_call (Wrote at len) = 1
is_call Synced = 1
is_call Other = 1
is_call Marked = 0

-- There is room for one call more.
abbrev pub HasEntry : Tape → Type 0
HasEntry tape = sum_by is_call tape.entries < tape.limit

-- With this call more, and as it was where the record is full.
pub record Tries (old new : Tape) (entry : Entry) : Type 0 where
  pub added : HasEntry old → new ≡ with_entry old entry
  pub full : (HasEntry old → ⊥) → new ≡ old

-- There is room for so many bytes at this place, in a file of the log's room and in the log.
pub record FitsLog (log : Held) (at n : ℕ) : Type 0 where
  pub file : at + n ≤ log.room
  pub all : length log.bytes + n ≤ log.room

-- The file is what the calls leave of the first one, the log has the bytes of all writes, and there is room.
pub record IsRecord (first : Image) (file log name : Held) (entries : List Entry) : Type 0 where
  pub kept : file.bytes ≡ (after_all (begun first) (calls_of log.bytes entries)).content
  pub logged : length log.bytes ≡ sum_by size_of entries
  pub rooms : log.room ≤ file.room
  pub name_room : 4096 ≤ name.room
