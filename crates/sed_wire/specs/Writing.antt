-- What a writer does. It means the bytes that it has written, and the rest of the slice that it writes into.
use Rattle.std.specs.Prelude.{◌≡◌, ℕ, List, ◌++◌, length, take, drop}
use Rattle.sed_wire.specs.declared.writer.Writer.{Writer}

abbrev pub written : Writer → List ℕ
written writer = take writer.at writer.into.now

-- the bytes of the slice behind what was written, which stand there as they were
abbrev pub untouched : Writer → List ℕ
untouched writer = drop writer.at writer.into.now

-- how many bytes can still be written
abbrev pub room : Writer → ℕ
room writer = length (untouched writer)

-- bytes are put behind what was written, in the place of as many
pub record Appends (old new : Writer) (bytes : List ℕ) : Type 0 where
  pub same_slice : new.into.ghost_name ≡ old.into.ghost_name
  pub written : written new ≡ written old ++ bytes
  pub untouched : untouched new ≡ drop (length bytes) (untouched old)

-- a spelling of something is put there
pub record Writes {A : Type 0} (Spells : A → List ℕ → Type 0) (thing : A) (old new : Writer) : Type 0 where
  pub spelling : List ℕ
  pub spelled : Spells thing spelling
  pub appends : Appends old new spelling

-- nothing is written
pub record Stays (old new : Writer) : Type 0 where
  pub same_slice : new.into.ghost_name ≡ old.into.ghost_name
  pub written : written new ≡ written old
  pub untouched : untouched new ≡ untouched old

-- the front of a slice is now the text, which counts so many bytes; what stood behind it stays
pub record Puts (text : List ℕ) (count : ℕ) (old new : List ℕ) : Type 0 where
  pub counted : count ≡ length text
  pub front : new ≡ text ++ drop (length text) old
