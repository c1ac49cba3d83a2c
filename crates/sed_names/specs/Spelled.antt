-- The number that an integer literal spells, and the character that a character literal spells, read from left to
-- right.
use Rattle.std.specs.Prelude.{ℕ, Bool, ◌==◌, ◌&&◌, ◌||◌, if◌then◌else◌, List, [], ◌∷◌, length, drop, Option, Some, None}
use Rattle.std.specs.Option.{option_or}
use Rattle.std.specs.Str.{byte}
use Rattle.sed_value.specs.Characters.{is_digit}
use Rattle.sed_lexer.specs.declared.numbers.Number.{Number}
use Rattle.sed_lexer.specs.Integers.{is_hex_digit, are_digits}
use Rattle.sed_lexer.specs.Spellings.{is_plain, escaped}
use Rattle.sed_lexer.specs.Values.{digits_value, decimal_number, hex_number}

-- the digits and `_` with which a numeral begins, and what is behind them
abbrev pub in_digits : (ℕ → Bool) → ℕ → Bool
in_digits passes b = passes b || (b == byte "_")

-- what is at the front and passes
abbrev pub front_while : (ℕ → Bool) → List ℕ → List ℕ
front_while passes [] = []
front_while passes (b ∷ bs) = if passes b then b ∷ front_while passes bs else []

abbrev pub digits_of : (ℕ → Bool) → List ℕ → List ℕ
digits_of passes bytes = front_while (in_digits passes) bytes

abbrev pub suffix_of : (ℕ → Bool) → List ℕ → List ℕ
suffix_of passes bytes = drop (length (digits_of passes bytes)) bytes

abbrev pub decimal_of : List ℕ → Option Number
decimal_of bytes = if are_digits is_digit (digits_of is_digit bytes)
    then decimal_number (suffix_of is_digit bytes) (digits_value 10 (digits_of is_digit bytes)) else None

abbrev pub hex_of : List ℕ → Option Number
hex_of bytes = if are_digits is_hex_digit (digits_of is_hex_digit bytes)
    then hex_number (suffix_of is_hex_digit bytes) (digits_value 16 (digits_of is_hex_digit bytes)) else None

-- hex digits stand behind `0x`
abbrev pub prefixed_hex_of : List ℕ → Option Number
prefixed_hex_of (z ∷ x ∷ bytes) = if (z == byte "0") && (x == byte "x") then hex_of bytes else None
prefixed_hex_of bytes = None

abbrev pub integer_of : List ℕ → Option Number
integer_of bytes = option_or (prefixed_hex_of bytes) (decimal_of bytes)

-- a byte between quotes, or an escape
abbrev pub character_of : List ℕ → Option ℕ
character_of (q ∷ b ∷ r ∷ []) = if (q == byte "'") && (r == byte "'") && is_plain (byte "'") b then Some b else None
character_of (q ∷ s ∷ b ∷ r ∷ []) = if (q == byte "'") && (s == byte "\\") && (r == byte "'") then escaped b else None
character_of bytes = None
