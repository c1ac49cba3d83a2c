-- What integers denote.
use Rattle.std.proofs.Common.{IsSome, ◌↔◌, get_or, ◌≡◌, ◌≢◌, ℕ, ◌+◌, ◌-◌, ◌*◌, ◌^◌, ◌<◌, ◌≤◌, pos, nat_le, Bool, true, false, not, ◌||◌, ◌==◌, cond, List, [], ◌∷◌, ◌++◌, length, take, drop, codes, fold, filter, Option, Some, None, option_and_then, inl, inr, refl, sym, ap, subst, ◌∙◌, arith, append_assoc}
use Rattle.std.specs.Int.{Width, int_wrap, cast_signed}
use Rattle.std.specs.Str.{bytes_eq}
use mir.Val.{bits}
use Rattle.std.proofs.Math.Nat.{mod-eq_of_lt, mul-le-mul_left}
use Rattle.std.proofs.lemmas.Bool.{cases_lt, ne_eqb}
use Rattle.std.proofs.lemmas.Bool.Decides.{nat_tests, Decides-eqb}
use Rattle.std.proofs.lemmas.List.{length-take-le, take-append-drop, length-append, take_at, drop_at, append-nil, take_all, take_more}
use Rattle.std.proofs.lemmas.List.Elements.{filter-append}
use Rattle.std.proofs.lemmas.List.Sums.{fold-append, fold_push}
use Rattle.sed_value.specs.Characters.{is_digit}
use Rattle.sed_value.specs.Wrap.{wrap}
use Rattle.sed_lexer.specs.declared.numbers.Number.{Number}
use Rattle.sed_lexer.specs.Integers.{is_hex_digit}
use Rattle.sed_lexer.specs.Values.{with_digit, digits_value, time_factor, int_within, long_within, decimal_number, hex_number, DenotesDecimal, DenotesHex, Denotes, IsWithinBounds}
use Rattle.sed_lexer.specs.One.{FindsOne}
use Rattle.sed_lexer.specs.Fronts.{NoFront, IsLongestFront}
use Rattle.sed_lexer.proofs.FrontLemmas.{front_in_front, run_goes_on}
use Rattle.sed_lexer.proofs.NumeralLemmas.{IsDigits, decimal_in_hex}
use Rattle.std.proofs.lemmas.Option.{none-some as none_some}

-- a number that the unsigned range holds stands for the signed one of the same bits
pub wrap_small : (width : Width) (n : ℕ) → n < 2 ^ bits width → cast_signed width n ≡ wrap width (pos n)
unfolding int_wrap
wrap_small width n small = ap (cast_signed width) (sym (mod-eq_of_lt small))

with_digit_grows : (base n d : ℕ) → 0 < base → n ≤ with_digit base n d
with_digit_grows base n d some =
    let k : n * 1 ≤ n * base = mul-le-mul_left n (omega arith) in
    omega (arith, k)

fold_grows : (base : ℕ) → 0 < base → (digits : List ℕ) (n : ℕ) → n ≤ fold (with_digit base) n digits
fold_grows base some [] n = omega arith
fold_grows base some (d ∷ ds) n = omega (arith, fold_grows base some ds (with_digit base n d), with_digit_grows base n d some)

abbrev counts : ℕ → Bool
counts b = not (b == 95)

pub digits_grow : (base : ℕ) → 0 < base → (xs ys : List ℕ) → digits_value base xs ≤ digits_value base (xs ++ ys)
digits_grow base some xs ys =
    rw (filter-append counts xs ys, fold-append (with_digit base) 0 (filter counts xs) (filter counts ys))
    (fold_grows base some (filter counts ys) (fold (with_digit base) 0 (filter counts xs)))

pub digits_skip : (base : ℕ) (xs : List ℕ) (b : ℕ) → b ≡ 95 → digits_value base (xs ++ b ∷ []) ≡ digits_value base xs
digits_skip base xs b e =
    let is : (b == 95) ≡ true = (Decides-eqb b 95).1 e in
    let same : filter counts (xs ++ b ∷ []) ≡ filter counts xs = filter-append counts xs (b ∷ []) ∙ rw is (append-nil (filter counts xs)) in
    ap (fold (with_digit base) 0) same

pub digits_more : (base : ℕ) (xs : List ℕ) (b : ℕ) → b ≢ 95 → digits_value base (xs ++ b ∷ []) ≡ with_digit base (digits_value base xs) b
digits_more base xs b other =
    let isnt : (b == 95) ≡ false = ne_eqb b 95 other in
    let more : filter counts (xs ++ b ∷ []) ≡ filter counts xs ++ b ∷ [] = filter-append counts xs (b ∷ []) ∙ rw isnt refl in
    ap (fold (with_digit base) 0) more ∙ fold_push (with_digit base) 0 (filter counts xs) b

some_is : {X : Type 0} (a b : X) → ◌≡◌ {A = Option X} (Some a) (Some b) → a ≡ b
some_is a b e = cc

-- a digit, or `_`
abbrev in_digits : (ℕ → Bool) → ℕ → Bool
in_digits p b = p b || (b == 95)

-- what a test tells apart differs
differs : (q : ℕ → Bool) (s c : ℕ) → q s ≡ true → q c ≡ false → (s == c) ≡ false
differs q s c is isnt = ne_eqb s c (λ e. let same : q s ≡ q c = ap q e in absurd (let k : true ≡ false = sym is ∙ same ∙ isnt in cc))

-- no suffix begins with a digit or `_`
time_suffix_ends : (s : ℕ) (ss : List ℕ) → in_digits is_digit s ≡ true → time_factor (s ∷ ss) ≡ None
time_suffix_ends s ss is =
    let n : (s == 110) ≡ false = differs (in_digits is_digit) s 110 is refl in
    let m : (s == 109) ≡ false = differs (in_digits is_digit) s 109 is refl in
    let e : (s == 115) ≡ false = differs (in_digits is_digit) s 115 is refl in
    let h : (s == 104) ≡ false = differs (in_digits is_digit) s 104 is refl in
    let d : (s == 100) ≡ false = differs (in_digits is_digit) s 100 is refl in
    rw (n, m, e, h, d) refl

decimal_suffix_ends : (s : ℕ) (ss : List ℕ) (v : ℕ) → in_digits is_digit s ≡ true → decimal_number (s ∷ ss) v ≡ None
decimal_suffix_ends s ss v is =
    let l : (s == 76) ≡ false = differs (in_digits is_digit) s 76 is refl in
    rw l (ap (option_and_then (λ factor. long_within (2 ^ 63 - 1) (v * factor))) (time_suffix_ends s ss is))

hex_suffix_ends : (s : ℕ) (ss : List ℕ) (v : ℕ) → in_digits is_hex_digit s ≡ true → hex_number (s ∷ ss) v ≡ None
hex_suffix_ends s ss v is =
    let l : (s == 76) ≡ false = differs (in_digits is_hex_digit) s 76 is refl in
    rw l refl

-- digits that something else ends are the longest
split_is : (p : ℕ → Bool) (text : List ℕ) (n : ℕ) → IsLongestFront (IsDigits p) text n → (digits suffix : List ℕ) → text ≡ digits ++ suffix → IsDigits p digits
    → ((s : ℕ) (ss : List ℕ) → suffix ≡ s ∷ ss → in_digits p s ≡ true → ⊥) → (digits ≡ take n text) × (suffix ≡ drop n text)
split_is p text n found digits suffix e run ends =
    let most : length digits ≤ n = found.most digits suffix e run in
    elim (cases_lt (length digits) n) [
      | inl less ↦ absurd (shorter suffix e less refl)
      | inr more ↦
          let size : length digits ≡ n = omega (arith, most, more) in
          (sym (ap (take n) e ∙ take_at digits suffix n size), sym (ap (drop n) e ∙ drop_at digits suffix n size))
    ]
  where
    shorter : (rest : List ℕ) → text ≡ digits ++ rest → length digits < n → rest ≡ suffix → ⊥
    shorter [] whole less same = omega (arith, less, found.within, ap length whole, length-append digits [])
    shorter (s ∷ ss) whole less same =
        let eq : (digits ++ s ∷ []) ++ ss ≡ take n text ++ drop n text = append_assoc digits (s ∷ []) ss ∙ sym whole ∙ sym (take-append-drop n text) in
        let size : length (digits ++ s ∷ []) ≤ length (take n text) = omega (arith, length-append digits (s ∷ []), length-take-le n text found.within, less) in
        let more = front_in_front (digits ++ s ∷ []) (take n text) ss (drop n text) eq size in
        ends s ss (sym same) (run_goes_on p (in_digits p) digits s more.0 run (subst (IsDigits p) more.1 found.has))

decimal_split : (text : List ℕ) (n : ℕ) → IsLongestFront (IsDigits is_digit) text n → (number : Number) → DenotesDecimal text number
    → decimal_number (drop n text) (digits_value 10 (take n text)) ≡ Some number
decimal_split text n found number (digits, suffix, e, run, is) =
    let ends = λ (s : ℕ) (ss : List ℕ) (same : suffix ≡ s ∷ ss) (digit : in_digits is_digit s ≡ true).
    none_some number (sym (decimal_suffix_ends s ss (digits_value 10 digits) digit) ∙ ap (λ (x : List ℕ). decimal_number x (digits_value 10 digits)) (sym same) ∙ is) in
    let split = split_is is_digit text n found digits suffix e run ends in
    ap (λ (x : List ℕ). decimal_number x (digits_value 10 (take n text))) (sym split.1) ∙ ap (λ (x : List ℕ). decimal_number suffix (digits_value 10 x)) (sym split.0) ∙ is

pub decimal_is_one : (text : List ℕ) (n : ℕ) (found : Option Number) → IsLongestFront (IsDigits is_digit) text n → found ≡ decimal_number (drop n text) (digits_value 10 (take n text))
    → FindsOne (DenotesDecimal text) found
decimal_is_one text n found digits e = with_found found e
  where
    with_found : (found : Option Number) → found ≡ decimal_number (drop n text) (digits_value 10 (take n text)) → FindsOne (DenotesDecimal text) found
    with_found None e = λ number denotes. none_some number (e ∙ decimal_split text n digits number denotes)
    with_found (Some number) e = (
      (take n text, drop n text, sym (take-append-drop n text), digits.has, sym e),
      λ other denotes. sym (some_is number other (e ∙ decimal_split text n digits other denotes)),
    )

within : {X : Type 0} (n bound : ℕ) (x y : X) → cond (nat_le n bound) (Some x) None ≡ Some y → n ≤ bound
within n bound x y e = with_test (nat_le n bound) refl e
  where
    with_test : (t : Bool) → nat_le n bound ≡ t → cond t (Some x) None ≡ Some y → n ≤ bound
    with_test true is e = grind (arith, nat_tests)
    with_test false is e = absurd (none_some y e)

pick : (t : Bool) (a factor : ℕ) (rest : Option ℕ) → 0 < a → (rest ≡ Some factor → 0 < factor) → cond t (Some a) rest ≡ Some factor → 0 < factor
pick true a factor rest some others e = let same : a ≡ factor = some_is a factor e in omega (arith, some, same)
pick false a factor rest some others e = others e

time_some : (suffix : List ℕ) (factor : ℕ) → time_factor suffix ≡ Some factor → 0 < factor
time_some suffix factor =
    pick (bytes_eq suffix (codes "ns")) 1 factor _ (omega arith) (
    pick (bytes_eq suffix (codes "ms")) 1000000 factor _ (omega arith) (
    pick (bytes_eq suffix (codes "sec")) 1000000000 factor _ (omega arith) (
    pick (bytes_eq suffix (codes "min")) 60000000000 factor _ (omega arith) (
    pick (bytes_eq suffix (codes "hr")) 3600000000000 factor _ (omega arith) (
    pick (bytes_eq suffix (codes "days")) 86400000000000 factor None (omega arith) (λ e. absurd (none_some factor e)))))))

time_bounded : (v factor : ℕ) (number : Number) → 0 < factor → long_within (2 ^ 63 - 1) (v * factor) ≡ Some number → v < 2 ^ 64
time_bounded v factor number some e =
    let k : v * 1 ≤ v * factor = mul-le-mul_left v (omega arith) in
    let most : v * factor ≤ 2 ^ 63 - 1 = within (v * factor) (2 ^ 63 - 1) _ number e in
    omega (arith, k, most)

-- what denotes a number is below 2 to the 64
decimal_bounded : (suffix : List ℕ) (v : ℕ) (number : Number) → decimal_number suffix v ≡ Some number → v < 2 ^ 64
decimal_bounded suffix v number e = with_empty (bytes_eq suffix []) e
  where
    with_unit : (unit : Option ℕ) → time_factor suffix ≡ unit → option_and_then (λ factor. long_within (2 ^ 63 - 1) (v * factor)) unit ≡ Some number → v < 2 ^ 64
    with_unit None is e = absurd (none_some number e)
    with_unit (Some factor) is e = time_bounded v factor number (time_some suffix factor is) e

    with_long : (t : Bool) → cond t (long_within (2 ^ 63) v) (option_and_then (λ factor. long_within (2 ^ 63 - 1) (v * factor)) (time_factor suffix)) ≡ Some number → v < 2 ^ 64
    with_long true e = let most : v ≤ 2 ^ 63 = within v (2 ^ 63) _ number e in omega (arith, most)
    with_long false e = with_unit (time_factor suffix) refl e

    with_empty : (t : Bool) → cond t (int_within (2 ^ 31) v) (cond (bytes_eq suffix (codes "L")) (long_within (2 ^ 63) v) (option_and_then (λ factor. long_within (2 ^ 63 - 1) (v * factor)) (time_factor suffix))) ≡ Some number → v < 2 ^ 64
    with_empty true e = let most : v ≤ 2 ^ 31 = within v (2 ^ 31) _ number e in omega (arith, most)
    with_empty false e = with_long (bytes_eq suffix (codes "L")) e

hex_bounded : (suffix : List ℕ) (v : ℕ) (number : Number) → hex_number suffix v ≡ Some number → v < 2 ^ 64
hex_bounded suffix v number e = with_empty (bytes_eq suffix []) e
  where
    with_long : (t : Bool) → cond t (long_within (2 ^ 64 - 1) v) None ≡ Some number → v < 2 ^ 64
    with_long true e = let most : v ≤ 2 ^ 64 - 1 = within v (2 ^ 64 - 1) _ number e in omega (arith, most)
    with_long false e = absurd (none_some number e)

    with_empty : (t : Bool) → cond t (int_within (2 ^ 32 - 1) v) (cond (bytes_eq suffix (codes "L")) (long_within (2 ^ 64 - 1) v) None) ≡ Some number → v < 2 ^ 64
    with_empty true e = let most : v ≤ 2 ^ 32 - 1 = within v (2 ^ 32 - 1) _ number e in omega (arith, most)
    with_empty false e = with_long (bytes_eq suffix (codes "L")) e

pub decimal_too_large : (text : List ℕ) (n : ℕ) → IsLongestFront (IsDigits is_digit) text n → (digits_value 10 (take n text) < 2 ^ 64 → ⊥) → (number : Number) → DenotesDecimal text number → ⊥
decimal_too_large text n digits large number denotes = large (decimal_bounded (drop n text) (digits_value 10 (take n text)) number (decimal_split text n digits number denotes))

pub no_decimal_digits : (text : List ℕ) → NoFront (IsDigits is_digit) text → (number : Number) → DenotesDecimal text number → ⊥
no_decimal_digits text none number (digits, suffix, e, run, is) = none digits suffix e run

hex_split : (rest : List ℕ) (n : ℕ) → IsLongestFront (IsDigits is_hex_digit) rest n → (text : List ℕ) → text ≡ 48 ∷ 120 ∷ rest → (number : Number) → DenotesHex text number
    → hex_number (drop n rest) (digits_value 16 (take n rest)) ≡ Some number
hex_split rest n found text begins number (digits, suffix, e, run, is) =
    let whole : 48 ∷ 120 ∷ rest ≡ 48 ∷ 120 ∷ (digits ++ suffix) = sym begins ∙ e in
    let tail : rest ≡ digits ++ suffix = cc in
    let ends = λ (s : ℕ) (ss : List ℕ) (same : suffix ≡ s ∷ ss) (digit : in_digits is_hex_digit s ≡ true).
    none_some number (sym (hex_suffix_ends s ss (digits_value 16 digits) digit) ∙ ap (λ (x : List ℕ). hex_number x (digits_value 16 digits)) (sym same) ∙ is) in
    let split = split_is is_hex_digit rest n found digits suffix tail run ends in
    ap (λ (x : List ℕ). hex_number x (digits_value 16 (take n rest))) (sym split.1) ∙ ap (λ (x : List ℕ). hex_number suffix (digits_value 16 x)) (sym split.0) ∙ is

pub hex_is_one : (text : List ℕ) (n : ℕ) (found : Option Number) → text ≡ 48 ∷ 120 ∷ drop 2 text → IsLongestFront (IsDigits is_hex_digit) (drop 2 text) n
    → found ≡ hex_number (drop n (drop 2 text)) (digits_value 16 (take n (drop 2 text))) → FindsOne (DenotesHex text) found
hex_is_one text n found begins digits e = with_found found e
  where
    with_found : (found : Option Number) → found ≡ hex_number (drop n (drop 2 text)) (digits_value 16 (take n (drop 2 text))) → FindsOne (DenotesHex text) found
    with_found None e = λ number denotes. none_some number (e ∙ hex_split (drop 2 text) n digits text begins number denotes)
    with_found (Some number) e = (
      (take n (drop 2 text), drop n (drop 2 text), begins ∙ ap (λ (x : List ℕ). 48 ∷ 120 ∷ x) (sym (take-append-drop n (drop 2 text))), digits.has, sym e),
      λ other denotes. sym (some_is number other (e ∙ hex_split (drop 2 text) n digits text begins other denotes)),
    )

pub hex_too_large : (text : List ℕ) (n : ℕ) → text ≡ 48 ∷ 120 ∷ drop 2 text → IsLongestFront (IsDigits is_hex_digit) (drop 2 text) n
    → (digits_value 16 (take n (drop 2 text)) < 2 ^ 64 → ⊥) → (number : Number) → DenotesHex text number → ⊥
hex_too_large text n begins digits large number denotes =
    large (hex_bounded (drop n (drop 2 text)) (digits_value 16 (take n (drop 2 text))) number (hex_split (drop 2 text) n digits text begins number denotes))

pub no_hex_digits : (text : List ℕ) → text ≡ 48 ∷ 120 ∷ drop 2 text → NoFront (IsDigits is_hex_digit) (drop 2 text) → (number : Number) → DenotesHex text number → ⊥
no_hex_digits text begins none number (digits, suffix, e, run, is) =
    let whole : 48 ∷ 120 ∷ drop 2 text ≡ 48 ∷ 120 ∷ (digits ++ suffix) = sym begins ∙ e in
    let tail : drop 2 text ≡ digits ++ suffix = cc in
    none digits suffix tail run

-- what denotes a number in hex denotes none in decimal
decimal_not_hex : (digits suffix rest : List ℕ) (number : Number) → 48 ∷ 120 ∷ rest ≡ digits ++ suffix → IsDigits is_digit digits
    → decimal_number suffix (digits_value 10 digits) ≡ Some number → ⊥
decimal_not_hex [] suffix rest number e run is = cc
decimal_not_hex (d ∷ []) [] rest number e run is = cc
decimal_not_hex (d ∷ []) (s ∷ ss) rest number e run is =
    let second : 120 ≡ s = cc in
    none_some number (subst (λ (x : ℕ). decimal_number (x ∷ ss) (digits_value 10 (d ∷ [])) ≡ Some number) (sym second) is)
decimal_not_hex (d ∷ c ∷ ds) suffix rest number e run is =
    let short : length (d ∷ c ∷ ds) ≤ 1 = decimal_in_hex (d ∷ c ∷ ds) suffix rest e run in
    absurd (omega (arith, short))

pub hex_only : (text : List ℕ) (number : Number) → FindsOne (DenotesHex text) (Some number) → FindsOne (Denotes text) (Some number)
hex_only text number (denotes, only) = (inr denotes, others)
  where
    others : (other : Number) → Denotes text other → other ≡ number
    others other (inr hex) = only other hex
    others other (inl (digits, suffix, e, run, is)) =
        absurd (decimal_not_hex digits suffix (denotes.0 ++ denotes.1) other (sym denotes.2 ∙ e) run is)

pub decimal_only : (text : List ℕ) (found : Option Number) → FindsOne (DenotesHex text) None → FindsOne (DenotesDecimal text) found → FindsOne (Denotes text) found
decimal_only text found hex decimal = with_found found decimal
  where
    with_found : (found : Option Number) → FindsOne (DenotesDecimal text) found → FindsOne (Denotes text) found
    with_found None none = λ number denotes. elim denotes [ inl is ↦ none number is | inr is ↦ hex number is ]
    with_found (Some number) (is, only) = (inl is, λ other denotes. elim denotes [ inl also ↦ only other also | inr also ↦ absurd (hex other also) ])

pub digits_end : (base : ℕ) (digits : List ℕ) (i number : ℕ) → number ≡ digits_value base (take i digits) → length digits ≤ i → number ≡ digits_value base digits
digits_end base digits i number so_far outside = so_far ∙ ap (digits_value base) (take_all i digits outside)

-- what no longer fits never does again
pub digits_stop : (base : ℕ) (digits : List ℕ) (i number : ℕ) → 0 < base → number ≡ digits_value base (take i digits) → i < length digits → get_or digits i 0 ≢ 95
    → (with_digit base number (get_or digits i 0) < 2 ^ 64 → ⊥) → digits_value base digits < 2 ^ 64 → ⊥
digits_stop base digits i number some so_far inside other large small =
    let more : digits_value base (take (i + 1) digits) ≡ with_digit base number (get_or digits i 0) =
    ap (digits_value base) (take_more digits i 0 inside) ∙ digits_more base (take i digits) (get_or digits i 0) other ∙ ap (λ (n : ℕ). with_digit base n (get_or digits i 0)) (sym so_far) in
    let grows : digits_value base (take (i + 1) digits) ≤ digits_value base digits =
    subst (λ (x : List ℕ). digits_value base (take (i + 1) digits) ≤ digits_value base x) (take-append-drop (i + 1) digits)
    (digits_grow base some (take (i + 1) digits) (drop (i + 1) digits)) in
    large (omega (arith, more, grows, small))

pub one_within : (text : List ℕ) (found : Option Number) → FindsOne (Denotes text) found → IsSome found ↔ IsWithinBounds text
one_within text None none = (λ h. absurd (let k : false ≡ true = h in cc), λ within. absurd (none within.0 within.1))
one_within text (Some number) one = (λ h. (number, one.0), λ within. refl)
