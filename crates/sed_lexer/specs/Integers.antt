-- How integers are written.
use Rattle.std.specs.Prelude.{◌≡◌, ℕ, Bool, ◌==◌, ◌||◌, ◌⊎◌, IsTrue, List, [], ◌∷◌, ◌++◌, codes}
use Rattle.std.specs.Str.{byte}
use Rattle.sed_value.specs.Characters.{is_between, is_digit}
use Rattle.sed_value.specs.Names.{is_first_then}
use Rattle.sed_lexer.specs.Words.{is_among}

-- 0 to 9, a to f, or A to F
abbrev pub is_hex_digit : ℕ → Bool
is_hex_digit b = is_digit b || is_between 97 102 b || is_between 65 70 b

-- a digit, then digits and `_`
abbrev pub are_digits : (ℕ → Bool) → List ℕ → Bool
are_digits passes bytes = is_first_then passes (λ b. passes b || (b == byte "_")) bytes

-- digits, and then nothing or one of these suffixes
abbrev pub IsNumeral : (ℕ → Bool) → List (List ℕ) → List ℕ → Type 0
IsNumeral passes suffixes bytes = (digits : List ℕ) × (suffix : List ℕ) × (bytes ≡ digits ++ suffix)
    × IsTrue (are_digits passes digits) × IsTrue (is_among ([] ∷ suffixes) suffix)

-- a long, or a number of nanoseconds, milliseconds, seconds, minutes, hours or days
abbrev pub decimal_suffixes : List (List ℕ)
decimal_suffixes = codes "L" ∷ codes "ns" ∷ codes "ms" ∷ codes "sec" ∷ codes "min" ∷ codes "hr" ∷ codes "days" ∷ []

-- a long
abbrev pub hex_suffixes : List (List ℕ)
hex_suffixes = codes "L" ∷ []

-- as `1_000`, `7L`, `10ms`
abbrev pub IsDecimalNumeral : List ℕ → Type 0
IsDecimalNumeral bytes = IsNumeral is_digit decimal_suffixes bytes

-- as `0xff`, `0xFFL`
abbrev pub IsHexNumeral : List ℕ → Type 0
IsHexNumeral bytes = (numeral : List ℕ) × (bytes ≡ codes "0x" ++ numeral)
    × IsNumeral is_hex_digit hex_suffixes numeral

abbrev pub IsInteger : List ℕ → Type 0
IsInteger bytes = IsDecimalNumeral bytes ⊎ IsHexNumeral bytes
