-- What was put into a sink.
use Rattle.std.specs.Prelude.{◌≡◌, ℕ, List, ◌++◌, take, Option, Some, None}

-- The text of a sink, where it is told, with these bytes behind it.
abbrev pub with_text : Option (List ℕ) → List ℕ → Option (List ℕ)
with_text None bytes = None
with_text (Some text) bytes = Some (text ++ bytes)

-- What was put is a front of these bytes.
abbrev pub PutsFront : Option (List ℕ) → Option (List ℕ) → List ℕ → Type 0
PutsFront before after bytes = (n : ℕ) × (after ≡ with_text before (take n bytes))
