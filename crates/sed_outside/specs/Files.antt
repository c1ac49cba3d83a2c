-- What files hold, and what a read and a write of one of them do.
use Rattle.std.specs.Prelude.{◌≡◌, ◌≢◌, ℕ, ◌+◌, ◌≤◌, ◌<◌, List, length, take, drop, Option, Some, None, IfSome}
use Rattle.sed_value.specs.declared.limits.TheConstants.{LARGEST_FILE}

-- The bytes of the file of each name, and none where no file has the name.
abbrev pub Contents : Type 0
Contents = List ℕ → Option (List ℕ)

-- The largest file that a read gives, in bytes.
abbrev pub largest_file : ℕ
largest_file = LARGEST_FILE

-- No read gives this file: it is not there, or it is too large.
abbrev pub IsUnreadable : Option (List ℕ) → Type 0
IsUnreadable None = Unit {0}
IsUnreadable (Some bytes) = largest_file < length bytes

-- What was put behind the bytes that stood there before.
abbrev pub put_behind : List ℕ → List ℕ → List ℕ
put_behind before after = drop (length before) after

-- After a read that was done: the bytes of before stand, and behind them those of the file, which is not too large.
pub record ReadsFile (known : Option Contents) (name before after : List ℕ) : Type 0 where
  pub kept : take (length before) after ≡ before
  pub small : length (put_behind before after) ≤ largest_file
  pub told : IfSome known (λ files. files name ≡ Some (put_behind before after))

-- After a write that was done: the file has exactly these bytes.
abbrev pub WritesFile : Option Contents → List ℕ → List ℕ → Type 0
WritesFile known name bytes = IfSome known (λ files. files name ≡ Some bytes)

-- A write leaves each other file as it was, and whether it is told what the files hold.
abbrev pub KeepsOthers : Option Contents → Option Contents → List ℕ → Type 0
KeepsOthers None None name = Unit {0}
KeepsOthers (Some before) (Some after) name = (other : List ℕ) → other ≢ name → after other ≡ before other
KeepsOthers (Some before) None name = ⊥
KeepsOthers None (Some after) name = ⊥

-- What a call on one name does to the counts of all names. None falls, and none moves where the call did not fail.
-- Files that are told count for each name apart. Others may keep one number that stands for every name: then the count
-- of another name goes on with that of the call's own, by one.
pub record KeepsCounts (Told : Type 0) (before now : List ℕ → ℕ) (name : List ℕ) (Failed : Type 0) : Type 0 where
  pub later : (other : List ℕ) → before other ≤ now other
  pub by_one : (other : List ℕ) → now other ≤ before other + 1
  pub steady : (Failed → ⊥) → (other : List ℕ) → now other ≡ before other
  pub apart : Told → (other : List ℕ) → other ≢ name → now other ≡ before other
