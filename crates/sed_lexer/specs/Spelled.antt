-- What of a character or a text has been read.
use Rattle.std.specs.Prelude.{◌≡◌, ℕ, ◌+◌, ◌<◌, ◌≤◌, List, ◌∷◌, ◌++◌, length, take, drop}
use Rattle.sed_lexer.specs.declared.spellings.Spelled.{Spelled}
use Rattle.sed_lexer.specs.Spellings.{Spells, SpellText}

-- the text begins with the spelling of this character, between quotes of this kind
pub record BeginsSpelled (quote : ℕ) (text : List ℕ) (one : Spelled) : Type 0 where
  pub within : one.len ≤ length text
  pub spells : Spells quote (take one.len text) one.character

-- the text begins with no character's spelling
abbrev pub NoSpelling : ℕ → List ℕ → Type 0
NoSpelling quote text = (bytes after : List ℕ) (c : ℕ) → text ≡ bytes ++ after → Spells quote bytes c → ⊥

-- The bytes up to this place spell these characters, and whatever spelling a quote ends has them as its front.
pub record SpellsTo (inner : List ℕ) (at : ℕ) (characters : List ℕ) : Type 0 where
  pub within : at ≤ length inner
  pub so_far : SpellText (take at inner) characters
  pub goes_on : (spelling after cs : List ℕ) → inner ≡ spelling ++ 34 ∷ after → SpellText spelling cs
      → (rest : List ℕ) × (more : List ℕ) × (drop at inner ≡ rest ++ 34 ∷ after)
      × SpellText rest more × (cs ≡ characters ++ more)

-- a quote stands at this place, and the bytes before it spell a text
pub record EndsText (inner : List ℕ) (n : ℕ) : Type 0 where
  pub within : n < length inner
  pub quote : inner ≡ take n inner ++ 34 ∷ drop (n + 1) inner
  pub spells : (characters : List ℕ) × SpellText (take n inner) characters
  pub only : (spelling after cs : List ℕ) → inner ≡ spelling ++ 34 ∷ after → SpellText spelling cs
      → length spelling ≡ n

-- no quote ends a text whose spelling begins here
abbrev pub NoTextEnd : List ℕ → Type 0
NoTextEnd inner = (spelling after cs : List ℕ) → inner ≡ spelling ++ 34 ∷ after → SpellText spelling cs → ⊥
