-- What a read of a whole file is, over a reader whose bytes may be known.
use Rattle.std.specs.Prelude.{◌≡◌, ◌↔◌, ◌≤◌, ℕ, Bool, IsTrue, List, ◌++◌, length}
use Rattle.sed_outside.specs.Files.{largest_file}

-- It is whole exactly where the reader has no more bytes than the largest file, and then what is held grew by exactly
-- these.
pub record ReadsWhole (before after : List ℕ) (whole : Bool) (bytes : List ℕ) : Type 0 where
  pub exactly : IsTrue whole ↔ (length bytes ≤ largest_file)
  pub all : IsTrue whole → after ≡ before ++ bytes

-- A file that was read is not too large, and what is held grew by exactly its bytes.
pub record ReadsBytes (before after bytes : List ℕ) : Type 0 where
  pub small : length bytes ≤ largest_file
  pub all : after ≡ before ++ bytes
