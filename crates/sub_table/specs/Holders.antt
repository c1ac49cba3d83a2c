-- Which numbers have subscribed, and the row that each holds.
use Rattle.std.specs.Prelude.{ℕ, ◌≡◌, ◌≢◌, ◌<◌, ◌≤◌, ◌+◌, ◌/◌, ◌%◌, ◌==◌, Bool, true, List, length, slice_index}
use Rattle.std.specs.Int.{bit_at}

-- the bits of 65,536 numbers in words of 64, a row for each, and how many rows are held
pub record Held : Type 0 where
  pub words : List ℕ
  pub rows : List ℕ
  pub count : ℕ

abbrev pub is_member : List ℕ → ℕ → Bool
is_member words number = bit_at (slice_index words (number / 64)) (number % 64) == 1

-- the rows of the numbers that have subscribed and the numbers of the rows are inverse to one another
pub record AreInverse (words rows numbers : List ℕ) (room : ℕ) : Type 0 where
  pub many : length rows ≡ 65536
  pub reserved : 65536 ≤ room
  pub bound : (number : ℕ) → is_member words number ≡ true → slice_index rows number < length numbers
  pub back : (number : ℕ) → is_member words number ≡ true → slice_index numbers (slice_index rows number) ≡ number
  pub below : (row : ℕ) → row < length numbers → slice_index numbers row < 65536
  pub held : (row : ℕ) → row < length numbers → is_member words (slice_index numbers row) ≡ true
  pub forth : (row : ℕ) → row < length numbers → slice_index rows (slice_index numbers row) ≡ row

-- the last of so many rows is moved to one that was freed, and others stay
pub record IsMoved (freed count before after : ℕ) : Type 0 where
  pub apart : before ≢ freed
  pub bound : before < count
  pub last : before + 1 ≡ count → after ≡ freed
  pub others : before + 1 ≢ count → after ≡ before
