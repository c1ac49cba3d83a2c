-- The integer that begins a text.
use Rattle.std.proofs.Common.{◌≡◌, ℕ, suc, ◌+◌, ◌≤◌, Bool, true, false, not, ◌||◌, ◌==◌, IsTrue, List, [], ◌∷◌, ◌++◌, length, take, drop, Option, Some, None, unwrap_or, inl, inr, refl, sym, ap, subst, ◌∙◌, arith, append_assoc}
use Rattle.std.specs.List.{list_all}
use Rattle.std.specs.Str.{bytes_eq}
use Rattle.std.proofs.Math.Seq.{take-add}
use Rattle.std.proofs.lemmas.Bool.{cases_lt}
use Rattle.std.proofs.lemmas.List.{length-take-le, take-append-drop, length-append, length-drop, drop_at}
use Rattle.sed_value.specs.Characters.{is_digit}
use Rattle.sed_lexer.specs.Integers.{decimal_suffixes, hex_suffixes}
use Rattle.sed_lexer.specs.Words.{is_among}
use Rattle.sed_lexer.specs.Integers.{is_hex_digit, are_digits, IsNumeral, IsDecimalNumeral, IsHexNumeral, IsInteger}
use Rattle.sed_lexer.specs.Fronts.{NoFront, IsLongestFront, FindsLongest}
use Rattle.sed_lexer.proofs.FrontLemmas.{and_left, and_right, front_in_front, run_goes_on}
use Rattle.sed_lexer.proofs.AmongLemmas.{among_passes}

abbrev pub IsDigits : (ℕ → Bool) → List ℕ → Type 0
IsDigits p bytes = IsTrue (are_digits p bytes)

abbrev pub IsSuffix : List (List ℕ) → List ℕ → Type 0
IsSuffix suffixes bytes = IsTrue (is_among ([] ∷ suffixes) bytes)

-- what is no digit and no `_` begins the bytes, if anything does
abbrev pub ends_digits : (ℕ → Bool) → List ℕ → Bool
ends_digits p [] = true
ends_digits p (b ∷ bs) = not (p b || (b == 95))

not_true : (b : Bool) → not b ≡ true → b ≡ true → ⊥
not_true true h k = cc
not_true false h k = cc

pub suffix_found : (suffixes : List (List ℕ)) (text : List ℕ) (n : ℕ) → IsLongestFront (λ bytes. IsTrue (is_among suffixes bytes)) text n → IsLongestFront (IsSuffix suffixes) text n
suffix_found suffixes text n found = record { within = found.within; has = or_right (bytes_eq [] (take n text)) (is_among suffixes (take n text)) found.has; most = most }
  where
    or_right : (a b : Bool) → b ≡ true → (a || b) ≡ true
    or_right true b h = refl
    or_right false b h = h

    most : (bytes after : List ℕ) → text ≡ bytes ++ after → IsSuffix suffixes bytes → length bytes ≤ n
    most [] after e is = omega arith
    most (b ∷ bs) after e is = found.most (b ∷ bs) after e is

pub no_suffix_found : (suffixes : List (List ℕ)) (text : List ℕ) → NoFront (λ bytes. IsTrue (is_among suffixes bytes)) text → IsLongestFront (IsSuffix suffixes) text 0
no_suffix_found suffixes text none = record { within = omega arith; has = refl; most = most }
  where
    most : (bytes after : List ℕ) → text ≡ bytes ++ after → IsSuffix suffixes bytes → length bytes ≤ 0
    most [] after e is = omega arith
    most (b ∷ bs) after e is = absurd (none (b ∷ bs) after e is)

pub suffix_or_none : (suffixes : List (List ℕ)) (text : List ℕ) (found : Option ℕ) → FindsLongest (λ bytes. IsTrue (is_among suffixes bytes)) text found
    → IsLongestFront (IsSuffix suffixes) text (unwrap_or found 0)
suffix_or_none suffixes text None none = no_suffix_found suffixes text none
suffix_or_none suffixes text (Some n) found = suffix_found suffixes text n found

-- the longest digits and the longest suffix behind them are the longest numeral
pub numeral_found : (p : ℕ → Bool) (suffixes : List (List ℕ)) (text : List ℕ) (n m : ℕ) → list_all (ends_digits p) suffixes ≡ true
    → IsLongestFront (IsDigits p) text n → IsLongestFront (IsSuffix suffixes) (drop n text) m → IsLongestFront (IsNumeral p suffixes) text (n + m)
numeral_found p suffixes text n m table digits ending = record {
  within = omega (arith, digits.within, ending.within, length-drop n text);
  has = (take n text, take m (drop n text), take-add n m text, digits.has, ending.has);
  most = most;
}
  where
    behind : (front suffix after : List ℕ) → text ≡ front ++ (suffix ++ after) → IsDigits p front → IsSuffix suffixes suffix → length front ≤ n → length front + length suffix ≤ n + m
    behind front [] after e run is le = omega arith
    behind front (s ∷ ss) after e run is le = elim (cases_lt (length front) n) [
      | inl less ↦
          let eq : (front ++ s ∷ []) ++ (ss ++ after) ≡ take n text ++ drop n text = append_assoc front (s ∷ []) (ss ++ after) ∙ sym e ∙ sym (take-append-drop n text) in
          let size : length (front ++ s ∷ []) ≤ length (take n text) = omega (arith, length-append front (s ∷ []), length-take-le n text digits.within, less) in
          let more = front_in_front (front ++ s ∷ []) (take n text) (ss ++ after) (drop n text) eq size in
          let passes : (p s || (s == 95)) ≡ true = run_goes_on p (λ b. p b || (b == 95)) front s more.0 run (subst (IsDigits p) more.1 digits.has) in
          let ends : not (p s || (s == 95)) ≡ true = among_passes (ends_digits p) ([] ∷ suffixes) (s ∷ ss) table is in
          absurd (not_true (p s || (s == 95)) ends passes)
      | inr more ↦
          let size : length front ≡ n = omega (arith, le, more) in
          let rest : drop n text ≡ (s ∷ ss) ++ after = ap (drop n) e ∙ drop_at front ((s ∷ ss) ++ after) n size in
          omega (arith, size, ending.most (s ∷ ss) after rest is)
    ]

    most : (bytes after : List ℕ) → text ≡ bytes ++ after → IsNumeral p suffixes bytes → length bytes ≤ n + m
    most bytes after e (front, suffix, spelled, run, is) =
        let whole : text ≡ front ++ (suffix ++ after) = e ∙ ap (λ (x : List ℕ). x ++ after) spelled ∙ append_assoc front suffix after in
        omega (arith, behind front suffix after whole run is (digits.most front (suffix ++ after) whole run), ap length spelled, length-append front suffix)

pub no_numeral : (p : ℕ → Bool) (suffixes : List (List ℕ)) (text : List ℕ) → NoFront (IsDigits p) text → NoFront (IsNumeral p suffixes) text
no_numeral p suffixes text none bytes after e (front, suffix, spelled, run, is) =
    none front (suffix ++ after) (e ∙ ap (λ (x : List ℕ). x ++ after) spelled ∙ append_assoc front suffix after) run

pub decimal_found : (text : List ℕ) (n m : ℕ) → IsLongestFront (IsDigits is_digit) text n → IsLongestFront (IsSuffix decimal_suffixes) (drop n text) m
    → IsLongestFront IsDecimalNumeral text (n + m)
decimal_found text n m digits ending = numeral_found is_digit decimal_suffixes text n m refl digits ending

abbrev IsHexRest : List ℕ → Type 0
IsHexRest bytes = IsNumeral is_hex_digit hex_suffixes bytes

hex_behind : (rest : List ℕ) (n : ℕ) → IsLongestFront IsHexRest rest n → IsLongestFront IsHexNumeral (48 ∷ 120 ∷ rest) (suc (suc n))
hex_behind rest n found = record { within = omega (arith, found.within); has = (take n rest, refl, found.has); most = most }
  where
    most : (bytes after : List ℕ) → 48 ∷ 120 ∷ rest ≡ bytes ++ after → IsHexNumeral bytes → length bytes ≤ suc (suc n)
    most bytes after e (numeral, spelled, is) =
        let whole : 48 ∷ 120 ∷ rest ≡ 48 ∷ 120 ∷ (numeral ++ after) = e ∙ ap (λ (x : List ℕ). x ++ after) spelled in
        let behind : rest ≡ numeral ++ after = cc in
        omega (arith, found.most numeral after behind is, ap length spelled)

pub hex_found : (text : List ℕ) (n m : ℕ) → text ≡ 48 ∷ 120 ∷ drop 2 text → IsLongestFront (IsDigits is_hex_digit) (drop 2 text) n
    → IsLongestFront (IsSuffix hex_suffixes) (drop n (drop 2 text)) m → IsLongestFront IsHexNumeral text (2 + n + m)
hex_found text n m begins digits ending =
    let size : 2 + n + m ≡ suc (suc (n + m)) = omega arith in
    rw size (subst (λ (x : List ℕ). IsLongestFront IsHexNumeral x (suc (suc (n + m)))) (sym begins)
    (hex_behind (drop 2 text) (n + m) (numeral_found is_hex_digit hex_suffixes (drop 2 text) n m refl digits ending)))

pub no_hex : (text : List ℕ) → text ≡ 48 ∷ 120 ∷ drop 2 text → NoFront (IsDigits is_hex_digit) (drop 2 text) → NoFront IsHexNumeral text
no_hex text begins none bytes after e (numeral, spelled, is) =
    let whole : 48 ∷ 120 ∷ drop 2 text ≡ 48 ∷ 120 ∷ (numeral ++ after) = sym begins ∙ e ∙ ap (λ (x : List ℕ). x ++ after) spelled in
    let behind : drop 2 text ≡ numeral ++ after = cc in
    no_numeral is_hex_digit hex_suffixes (drop 2 text) none numeral after behind is

-- a decimal that begins a text which `0x` begins is the 0
pub decimal_in_hex : (front suffix rest : List ℕ) → 48 ∷ 120 ∷ rest ≡ front ++ suffix → IsDigits is_digit front → length front ≤ 1
decimal_in_hex [] suffix rest e run = omega arith
decimal_in_hex (d ∷ []) suffix rest e run = omega arith
decimal_in_hex (d ∷ c ∷ ds) suffix rest e run =
    let second : 120 ≡ c = cc in
    let passes = and_left (is_digit c || (c == 95)) (list_all (λ b. is_digit b || (b == 95)) ds) (and_right (is_digit d) (list_all (λ b. is_digit b || (b == 95)) (c ∷ ds)) run) in
    absurd (no_x (subst (λ (x : ℕ). (is_digit x || (x == 95)) ≡ true) (sym second) passes))
  where
    no_x : (is_digit 120 || (120 == 95)) ≡ true → ⊥
    no_x h = cc

decimal_short : (front suffix after rest : List ℕ) → 48 ∷ 120 ∷ rest ≡ front ++ (suffix ++ after) → IsDigits is_digit front
    → IsSuffix decimal_suffixes suffix → length front + length suffix ≤ 2
decimal_short [] suffix after rest e run is = cc
decimal_short (d ∷ []) [] after rest e run is = omega arith
decimal_short (d ∷ []) (s ∷ ss) after rest e run is =
    let second : 120 ≡ s = cc in
    absurd (no_x ss (subst (λ (x : ℕ). IsSuffix decimal_suffixes (x ∷ ss)) (sym second) is))
  where
    no_x : (ss : List ℕ) → IsSuffix decimal_suffixes (120 ∷ ss) → ⊥
    no_x ss h = cc
decimal_short (d ∷ c ∷ ds) suffix after rest e run is =
    let short : length (d ∷ c ∷ ds) ≤ 1 = decimal_in_hex (d ∷ c ∷ ds) (suffix ++ after) rest e run in
    absurd (omega (arith, short))

-- a hex numeral is the longest integer
pub hex_is_longest : (text : List ℕ) (n : ℕ) → IsLongestFront IsHexNumeral text n → IsLongestFront IsInteger text n
hex_is_longest text n found = record { within = found.within; has = inr found.has; most = most }
  where
    most : (bytes after : List ℕ) → text ≡ bytes ++ after → IsInteger bytes → length bytes ≤ n
    most bytes after e (inr hex) = found.most bytes after e hex
    most bytes after e (inl (front, suffix, spelled, run, is)) =
        let numeral : List ℕ = found.has.0 in
        let hex : take n text ≡ 48 ∷ 120 ∷ numeral = found.has.1 in
        let begins : 48 ∷ 120 ∷ (numeral ++ drop n text) ≡ front ++ (suffix ++ after) =
        ap (λ (x : List ℕ). x ++ drop n text) (sym hex) ∙ take-append-drop n text ∙ e ∙ ap (λ (x : List ℕ). x ++ after) spelled ∙ append_assoc front suffix after in
        let short : length front + length suffix ≤ 2 = decimal_short front suffix after (numeral ++ drop n text) begins run is in
        omega (arith, short, ap length spelled, length-append front suffix, ap length hex, length-take-le n text found.within)

-- where no hex numeral begins the text, the decimal is the longest integer
decimal_is_longest : (text : List ℕ) (n : ℕ) → NoFront IsHexNumeral text → IsLongestFront IsDecimalNumeral text n → IsLongestFront IsInteger text n
decimal_is_longest text n hex found = record { within = found.within; has = inl found.has; most = most }
  where
    most : (bytes after : List ℕ) → text ≡ bytes ++ after → IsInteger bytes → length bytes ≤ n
    most bytes after e (inl is) = found.most bytes after e is
    most bytes after e (inr is) = absurd (hex bytes after e is)

no_integer : (text : List ℕ) → NoFront IsHexNumeral text → NoFront IsDecimalNumeral text → NoFront IsInteger text
no_integer text hex decimal bytes after e (inl is) = decimal bytes after e is
no_integer text hex decimal bytes after e (inr is) = hex bytes after e is

pub decimal_or_none : (text : List ℕ) (found : Option ℕ) → NoFront IsHexNumeral text → FindsLongest IsDecimalNumeral text found → FindsLongest IsInteger text found
decimal_or_none text None hex found = no_integer text hex found
decimal_or_none text (Some n) hex found = decimal_is_longest text n hex found
