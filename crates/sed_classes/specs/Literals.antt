-- The characters of a text literal.
use Rattle.std.specs.Prelude.{ℕ, ◌-◌, Bool, true, false, ◌==◌, if◌then◌else◌, unwrap_or, take, drop, length, List, []}
use Rattle.std.specs.Prelude.{◌∷◌}
use Rattle.std.specs.Str.{byte}
use Rattle.sed_lexer.specs.Spellings.{escaped}

-- the characters that bytes of a text spell, where a backslash stands before them or not: with the byte behind it it
-- is one
abbrev pub characters_in : Bool → List ℕ → List ℕ
characters_in slashed [] = []
characters_in true (b ∷ bs) = unwrap_or (escaped b) b ∷ characters_in false bs
characters_in false (b ∷ bs) = if b == byte "\\" then characters_in true bs else b ∷ characters_in false bs

-- the characters of a text literal, which stands between two quotes
abbrev pub text_of : List ℕ → List ℕ
text_of bytes = characters_in false (take (length bytes - 2) (drop 1 bytes))
