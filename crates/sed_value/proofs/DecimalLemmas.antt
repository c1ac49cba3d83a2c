-- When bytes write no number of at most `most`.
use Rattle.std.proofs.Common.{◌≡◌, ℕ, ◌+◌, ◌<◌, ◌≤◌, List, [], ◌∷◌, take, drop, fold, None, false, get_or, length, nat_le, ap, sym, ◌∙◌, rules, arith, take-append-drop}
use Rattle.std.proofs.lemmas.List.Sums.{fold-append}
use Rattle.std.specs.List.{list_all}
use Rattle.std.proofs.lemmas.List.Sums.{fold_more}
use Rattle.std.proofs.lemmas.List.Folds.{list_all_at}
use Rattle.sed_value.specs.Characters.{is_digit}
use Rattle.sed_value.specs.Decimal.{with_digit, decimal_value, number_of}

-- more digits make no smaller number
with_digits-grows : (digits : List ℕ) (number : ℕ) → number ≤ fold with_digit number digits
with_digits-grows [] number = omega arith
with_digits-grows (digit ∷ digits) number =
    let more : with_digit number digit ≤ fold with_digit (with_digit number digit) digits = with_digits-grows digits (with_digit number digit) in
    omega (arith, more)

decimal_value-take : (bytes : List ℕ) (i : ℕ) → decimal_value (take i bytes) ≤ decimal_value bytes
decimal_value-take bytes i =
    let parts : fold with_digit (decimal_value (take i bytes)) (drop i bytes) ≡ decimal_value bytes =
    sym (fold-append with_digit 0 (take i bytes) (drop i bytes)) ∙ ap decimal_value (take-append-drop i bytes) in
    omega (arith, parts, with_digits-grows (drop i bytes) (decimal_value (take i bytes)))

-- a byte is no digit
pub number_of-other : (most : ℕ) (bytes : List ℕ) (i : ℕ) → i < length bytes → is_digit (get_or bytes i 0) ≡ false → None ≡ number_of most bytes
number_of-other most bytes i within other =
    let none : list_all is_digit bytes ≡ false = list_all_at is_digit bytes i 0 within other in
    grind (arith, none)

-- the digits as far as the one at `i` write too large a number
pub number_of-large : (most : ℕ) (bytes : List ℕ) (i : ℕ) → i < length bytes → most < with_digit (decimal_value (take i bytes)) (get_or bytes i 0) → None ≡ number_of most bytes
number_of-large most bytes i within large =
    let step : decimal_value (take (i + 1) bytes) ≡ with_digit (decimal_value (take i bytes)) (get_or bytes i 0) = fold_more with_digit 0 bytes i 0 within in
    let above : most < decimal_value bytes = omega (arith, step, large, decimal_value-take bytes (i + 1)) in
    let no : nat_le (decimal_value bytes) most ≡ false = search (rules, above) in
    grind (arith, no)
