-- What reading a form of bytes from left to right comes to.
use Rattle.std.specs.Prelude.{ℕ, List}

-- What the front of the bytes spells, with the bytes that are left behind it. Or, where it spells nothing, the bytes
-- from the start of the first field on that is cut or not allowed.
pub data Reading (A : Type 0) : Type 0 where
  Found : A → List ℕ → Reading A
  Stuck : List ℕ → Reading A

-- how bytes are read as such a thing
abbrev pub ReadsAs : Type 0 → Type 0
ReadsAs A = List ℕ → Reading A

-- reading goes on with what follows, by what was found
abbrev pub read_on : {A B : Type 0} → Reading A → (A → ReadsAs B) → Reading B
read_on (Stuck rest) next = Stuck rest
read_on (Found a rest) next = next a rest
