-- Fields in bytes: a byte that names the field and says the form of its value, and the value.
use Rattle.std.specs.Prelude.{◌≡◌, ℕ, ◌<◌, ◌%◌, List, [], ◌∷◌, ◌++◌, length}
use Rattle.sed_wire.specs.Number.{SpellsNumber}
use Rattle.sed_wire.specs.Text.{SpellsText}

-- what stands behind a field's byte: nothing, a number of two bytes, a text, or so many bytes
pub data Content : Type 0 where
  nil : Content
  number : ℕ → Content
  text : List ℕ → Content
  run : List ℕ → Content

pub record Part : Type 0 where
  pub byte : ℕ
  pub content : Content

-- the low two bits of the byte in front
abbrev pub form_of : Content → ℕ
form_of nil = 0
form_of (number n) = 1
form_of (text characters) = 2
form_of (run bytes) = 3

-- a byte that says how many bytes follow, and these bytes
abbrev pub SpellsRun : List ℕ → List ℕ → Type 0
SpellsRun contents bytes = (length contents < 256) × (bytes ≡ length contents ∷ contents)

abbrev pub SpellsContent : Content → List ℕ → Type 0
SpellsContent nil bytes = bytes ≡ []
SpellsContent (number n) bytes = SpellsNumber 2 n bytes
SpellsContent (text characters) bytes = SpellsText characters bytes
SpellsContent (run contents) bytes = SpellsRun contents bytes

pub record SpellsField (part : Part) (bytes : List ℕ) : Type 0 where
  pub byte : part.byte < 256
  pub form : part.byte % 4 ≡ form_of part.content
  pub content : List ℕ
  pub spelled : SpellsContent part.content content
  pub whole : bytes ≡ part.byte ∷ content

-- fields stand one behind the other
abbrev pub SpellsFields : List Part → List ℕ → Type 0
SpellsFields [] bytes = bytes ≡ []
SpellsFields (part ∷ behind) bytes =
    (first : List ℕ) × (others : List ℕ) × SpellsField part first × SpellsFields behind others
    × (bytes ≡ first ++ others)
