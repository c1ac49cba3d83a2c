-- What lies between tokens: blanks, line ends and comments.
use Rattle.std.specs.Prelude.{◌≡◌, ℕ, ◌≤◌, Bool, false, ◌==◌, ◌||◌, ◌⊎◌, IsTrue, List, [], ◌∷◌, ◌++◌, length, codes}
use Rattle.std.specs.List.{list_any}

abbrev pub is_line_end : ℕ → Bool
is_line_end b = b == 10

abbrev pub has_line_end : List ℕ → Bool
has_line_end bytes = list_any is_line_end bytes

-- a tab, a carriage return, a space or a line end
abbrev pub is_blank : ℕ → Bool
is_blank b = (b == 9) || (b == 13) || (b == 32) || is_line_end b

-- one blank or line end
abbrev pub IsBlank : List ℕ → Type 0
IsBlank bytes = (b : ℕ) × (bytes ≡ b ∷ []) × IsTrue (is_blank b)

-- `//` or `**`, and then anything but a line end
abbrev pub IsLineComment : List ℕ → Type 0
IsLineComment bytes = (words : List ℕ) × ((bytes ≡ codes "//" ++ words) ⊎ (bytes ≡ codes "**" ++ words))
    × (has_line_end words ≡ false)

-- the first `*/` in the bytes stands at their end, behind these words
abbrev pub EndsComment : List ℕ → List ℕ → Type 0
EndsComment bytes words = (bytes ≡ words ++ codes "*/")
    × ((earlier after : List ℕ) → bytes ≡ earlier ++ (codes "*/" ++ after) → length words ≤ length earlier)

-- `/*`, and then anything to the next `*/`
abbrev pub IsBlockComment : List ℕ → Type 0
IsBlockComment bytes = (rest : List ℕ) × (words : List ℕ) × (bytes ≡ codes "/*" ++ rest) × EndsComment rest words

abbrev pub IsGap : List ℕ → Type 0
IsGap bytes = IsBlank bytes ⊎ (IsLineComment bytes ⊎ IsBlockComment bytes)
