-- What a text begins with: the longest of its fronts that have a property.
use Rattle.std.specs.Prelude.{◌≡◌, ℕ, ◌+◌, ◌≤◌, Bool, false, ◌==◌, List, [], ◌∷◌, ◌++◌, length, take, drop, Option}
use Rattle.std.specs.Prelude.{MatchOption}

-- no front of the text has the property
abbrev pub NoFront : (List ℕ → Type 0) → List ℕ → Type 0
NoFront P text = (bytes after : List ℕ) → text ≡ bytes ++ after → P bytes → ⊥

-- the first bytes of the text, this many, have the property, and no longer front does
pub record IsLongestFront (P : List ℕ → Type 0) (text : List ℕ) (n : ℕ) : Type 0 where
  pub within : n ≤ length text
  pub has : P (take n text)
  pub most : (bytes after : List ℕ) → text ≡ bytes ++ after → P bytes → length bytes ≤ n

-- the length of the longest front with the property, where there is one
abbrev pub FindsLongest : (List ℕ → Type 0) → List ℕ → Option ℕ → Type 0
FindsLongest P text found = MatchOption found (NoFront P text) (IsLongestFront P text)

-- these bytes stand in the text at this place, and nowhere before it
pub record StandsFirst (bytes text : List ℕ) (n : ℕ) : Type 0 where
  pub within : n + length bytes ≤ length text
  pub here : text ≡ take n text ++ (bytes ++ drop (n + length bytes) text)
  pub first : (earlier after : List ℕ) → text ≡ earlier ++ (bytes ++ after) → n ≤ length earlier

-- the first place of these bytes in the text, if they stand in it
abbrev pub FindsFirst : List ℕ → List ℕ → Option ℕ → Type 0
FindsFirst bytes text found =
    MatchOption found ((earlier after : List ℕ) → text ≡ earlier ++ (bytes ++ after) → ⊥) (StandsFirst bytes text)

abbrev pub begins_with : List ℕ → ℕ → Bool
begins_with [] byte = false
begins_with (b ∷ bs) byte = b == byte
