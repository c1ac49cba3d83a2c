-- What a line of a table writes: fields, parted by bars that stand between spaces.
use Rattle.std.specs.Prelude.{◌≡◌, ℕ, ◌+◌, ◌-◌, ◌*◌, ◌==◌, ◌||◌, ◌&&◌, not, Bool, false, nat_le, if◌then◌else◌, List}
use Rattle.std.specs.Prelude.{[], ◌∷◌, Option, Some, None, option_and_then}
use Rattle.std.specs.Str.{byte}

-- whether a line is a row: it is neither empty nor a comment
abbrev pub is_row : List ℕ → Bool
is_row [] = false
is_row (b ∷ rest) = not (b == byte "#")

abbrev pub is_between : ℕ → ℕ → ℕ → Bool
is_between low high b = nat_le low b && nat_le b high

-- what a hex digit counts
abbrev pub hex_digit : ℕ → Option ℕ
hex_digit b = if is_between (byte "0") (byte "9") b then Some (b - byte "0")
    else if is_between (byte "a") (byte "f") b then Some (b - byte "a" + 10)
    else if is_between (byte "A") (byte "F") b then Some (b - byte "A" + 10)
    else None

abbrev pub of_digits : List ℕ → Option ℕ → Option ℕ → Option (ℕ × List ℕ)
of_digits rest (Some high) (Some low) = Some (high * 16 + low, rest)
of_digits rest _ _ = None

-- the byte of two hex digits, and what follows them
abbrev pub hex_byte : List ℕ → Option (ℕ × List ℕ)
hex_byte (high ∷ low ∷ rest) = of_digits rest (hex_digit high) (hex_digit low)
hex_byte _ = None

-- the byte that what stands behind a backslash spells, and what follows it
abbrev pub escaped : List ℕ → Option (ℕ × List ℕ)
escaped [] = None
escaped (b ∷ rest) = if b == byte "n" then Some (10, rest)
    else if b == byte "r" then Some (13, rest)
    else if b == byte "t" then Some (9, rest)
    else if (b == byte "\\") || (b == byte "|") then Some (b, rest)
    else if b == byte "x" then hex_byte rest
    else None

-- the byte that the text begins by spelling, and what follows it
abbrev pub spelled : List ℕ → Option (ℕ × List ℕ)
spelled [] = None
spelled (b ∷ rest) = if b == byte "\\" then escaped rest else Some (b, rest)

-- the text without the spaces that it begins with
abbrev pub skip_spaces : List ℕ → List ℕ
skip_spaces [] = []
skip_spaces (b ∷ rest) = if b == byte " " then skip_spaces rest else b ∷ rest

-- what follows the space that the text begins with
abbrev pub behind_space : List ℕ → Option (List ℕ)
behind_space [] = None
behind_space (b ∷ rest) = if b == byte " " then Some rest else None

abbrev pub behind_spaced_bar : List ℕ → Option (List ℕ)
behind_spaced_bar [] = None
behind_spaced_bar (b ∷ rest) = if b == byte "|" then behind_space rest else None

-- what follows the bar that the text begins with: spaces, `|` and one space
abbrev pub behind_bar : List ℕ → Option (List ℕ)
behind_bar text = option_and_then (λ rest. behind_spaced_bar (skip_spaces rest)) (behind_space text)

-- the text writes the fields
pub data Writes : List ℕ → List (List ℕ) → Type 0 where
  at_end : Writes [] ([] ∷ [])
  at_bar : (text rest : List ℕ) (fields : List (List ℕ)) → behind_bar text ≡ Some rest
      → Writes rest fields → Writes text ([] ∷ fields)
  at_byte : (text rest field : List ℕ) (b : ℕ) (fields : List (List ℕ))
      → behind_bar text ≡ None → spelled text ≡ Some (b, rest)
      → Writes rest (field ∷ fields) → Writes text ((b ∷ field) ∷ fields)
