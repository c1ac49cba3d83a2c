-- What is shown of bytes in place.
use Rattle.std.specs.Prelude.{ℕ, List, [], ◌∷◌, ◌++◌, flat_map, encode_utf8_all}
use Rattle.std.specs.Char.Escape.{escape_ascii}

-- a byte that prints is shown as it is, a quote or a backslash behind a backslash, and any other by an escape, as `\n`
-- or `\xff`
abbrev pub shown_byte : ℕ → List ℕ
shown_byte byte = encode_utf8_all (escape_ascii byte)

abbrev pub shown : List ℕ → List ℕ
shown bytes = flat_map shown_byte bytes

-- in double quotes
abbrev pub quoted : List ℕ → List ℕ
quoted text = 34 ∷ (text ++ 34 ∷ [])
