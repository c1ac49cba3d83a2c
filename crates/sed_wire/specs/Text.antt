-- Texts that end with a 0.
use Rattle.std.specs.Prelude.{◌≡◌, ℕ, Bool, ◌&&◌, nat_le, IsTrue, List, [], ◌∷◌, ◌++◌}
use Rattle.std.specs.List.{list_all}

-- a character of ASCII other than 0
abbrev pub is_character : ℕ → Bool
is_character byte = nat_le 1 byte && nat_le byte 127

abbrev pub is_text : List ℕ → Bool
is_text bytes = list_all is_character bytes

-- the characters of a text, and the 0 that ends it
pub record SpellsText (text bytes : List ℕ) : Type 0 where
  pub characters : IsTrue (is_text text)
  pub ended : bytes ≡ text ++ 0 ∷ []
