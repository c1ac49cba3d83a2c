-- What integers denote.
use Rattle.std.specs.Prelude.{◌≡◌, ℕ, ◌+◌, ◌-◌, ◌*◌, ◌^◌, pos, not, ◌==◌, nat_le, if◌then◌else◌, ◌⊎◌, IsTrue, List, []}
use Rattle.std.specs.Prelude.{◌++◌, codes, fold, filter, Option, Some, None, option_and_then}
use Rattle.std.specs.Int.{w32, w64}
use Rattle.std.specs.Str.{byte, bytes_eq}
use Rattle.sed_value.specs.Characters.{is_between, is_digit}
use Rattle.sed_value.specs.Wrap.{wrap}
use Rattle.sed_lexer.specs.declared.numbers.Number.{Number}
use Rattle.sed_lexer.specs.declared.numbers.Number.TheVariants.{Int, Long}
use Rattle.sed_lexer.specs.Integers.{is_hex_digit, are_digits}

-- what a digit counts
abbrev pub digit_value : ℕ → ℕ
digit_value b = if is_digit b then b - byte "0"
    else if is_between (byte "a") (byte "f") b then b - byte "a" + 10
    else b - byte "A" + 10

abbrev pub with_digit : ℕ → ℕ → ℕ → ℕ
with_digit base number digit = number * base + digit_value digit

-- the number that the digits write in this base; `_` is ignored
abbrev pub digits_value : ℕ → List ℕ → ℕ
digits_value base digits = fold (with_digit base) 0 (filter (λ b. not (b == byte "_")) digits)

-- how many nanoseconds the unit of time has
abbrev pub time_factor : List ℕ → Option ℕ
time_factor suffix = if bytes_eq suffix (codes "ns") then Some 1
    else if bytes_eq suffix (codes "ms") then Some 1000000
    else if bytes_eq suffix (codes "sec") then Some 1000000000
    else if bytes_eq suffix (codes "min") then Some 60000000000
    else if bytes_eq suffix (codes "hr") then Some 3600000000000
    else if bytes_eq suffix (codes "days") then Some 86400000000000
    else None

-- the int of the number's low 32 bits, where the number is within the bound
abbrev pub int_within : ℕ → ℕ → Option Number
int_within bound n = if nat_le n bound then Some (Int (wrap w32 (pos n))) else None

-- the long of the number's low 64 bits, where the number is within the bound
abbrev pub long_within : ℕ → ℕ → Option Number
long_within bound n = if nat_le n bound then Some (Long (wrap w64 (pos n))) else None

-- what this number denotes in decimal with a suffix, if it is within the suffix's bound
abbrev pub decimal_number : List ℕ → ℕ → Option Number
decimal_number suffix n = if bytes_eq suffix [] then int_within (2 ^ 31) n
    else if bytes_eq suffix (codes "L") then long_within (2 ^ 63) n
    else option_and_then (λ factor. long_within (2 ^ 63 - 1) (n * factor)) (time_factor suffix)

-- what this number denotes in hex with a suffix, if it is within the suffix's bound
abbrev pub hex_number : List ℕ → ℕ → Option Number
hex_number suffix n = if bytes_eq suffix [] then int_within (2 ^ 32 - 1) n
    else if bytes_eq suffix (codes "L") then long_within (2 ^ 64 - 1) n
    else None

abbrev pub DenotesDecimal : List ℕ → Number → Type 0
DenotesDecimal bytes number = (digits : List ℕ) × (suffix : List ℕ) × (bytes ≡ digits ++ suffix)
    × IsTrue (are_digits is_digit digits) × (decimal_number suffix (digits_value 10 digits) ≡ Some number)

abbrev pub DenotesHex : List ℕ → Number → Type 0
DenotesHex bytes number = (digits : List ℕ) × (suffix : List ℕ) × (bytes ≡ codes "0x" ++ (digits ++ suffix))
    × IsTrue (are_digits is_hex_digit digits) × (hex_number suffix (digits_value 16 digits) ≡ Some number)

-- the integer denotes this number
abbrev pub Denotes : List ℕ → Number → Type 0
Denotes bytes number = DenotesDecimal bytes number ⊎ DenotesHex bytes number

-- the integer is within the bound of its form
abbrev pub IsWithinBounds : List ℕ → Type 0
IsWithinBounds bytes = (number : Number) × Denotes bytes number
