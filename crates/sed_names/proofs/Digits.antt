-- The function of an integer's bytes gives the number that they denote, and none where they denote none.
use Rattle.std.proofs.Common.{◌≡◌, ℕ, ◌-◌, ◌*◌, ◌^◌, Bool, true, false, ◌||◌, ◌&&◌, ◌==◌, cond, IsTrue, List, [], ◌∷◌, ◌++◌, length, drop, Option, Some, None, option_and_then, inl, inr, refl, sym, ap, subst, ◌∙◌}
use Rattle.std.specs.List.{list_all}
use Rattle.std.specs.Option.{option_or}
use Rattle.std.proofs.lemmas.Bool.{ne_eqb}
use Rattle.std.proofs.lemmas.Bool.Decides.{Decides-eqb}
use Rattle.sed_value.specs.Characters.{is_digit}
use Rattle.sed_lexer.specs.declared.numbers.Number.{Number}
use Rattle.sed_lexer.specs.Integers.{is_hex_digit, are_digits}
use Rattle.sed_lexer.specs.One.{FindsOne}
use Rattle.sed_lexer.specs.Values.{digits_value, decimal_number, hex_number, long_within, time_factor, DenotesDecimal, DenotesHex, Denotes}
use Rattle.sed_names.specs.Spelled.{in_digits, front_while, digits_of, suffix_of, decimal_of, hex_of, prefixed_hex_of, integer_of}
use Rattle.std.proofs.lemmas.Option.{none-some as none_some}

-- ---- a front and what is behind it

pub front_and_rest : (p : ℕ → Bool) (bytes : List ℕ) → bytes ≡ front_while p bytes ++ drop (length (front_while p bytes)) bytes
front_and_rest p [] = refl
front_and_rest p (b ∷ bs) = by_test (front_and_rest p bs) (p b) refl
  where
    by_test : bs ≡ front_while p bs ++ drop (length (front_while p bs)) bs → (t : Bool) → p b ≡ t → b ∷ bs ≡ cond t (b ∷ front_while p bs) [] ++ drop (length (cond t (b ∷ front_while p bs) [])) (b ∷ bs)
    by_test rest true e = ap (λ xs. b ∷ xs) rest
    by_test rest false e = refl

-- what passes, with something behind it that begins with what does not
abbrev Ends : (ℕ → Bool) → List ℕ → Type 0
Ends p [] = Unit {0}
Ends p (b ∷ bs) = p b ≡ false

front_is : (p : ℕ → Bool) (front rest : List ℕ) → list_all p front ≡ true → Ends p rest → front_while p (front ++ rest) ≡ front
front_is p [] [] h e = refl
front_is p [] (b ∷ bs) h e = rw e refl
front_is p (x ∷ xs) rest h e = by_test (λ all. front_is p xs rest all e) (p x) refl h
  where
    by_test : (list_all p xs ≡ true → front_while p (xs ++ rest) ≡ xs) → (t : Bool) → p x ≡ t → t && list_all p xs ≡ true → cond t (x ∷ front_while p (xs ++ rest)) [] ≡ x ∷ xs
    by_test behind true q h = ap (λ ys. x ∷ ys) (behind h)
    by_test behind false q h = absurd (let k : false ≡ true = h in cc)

rest_is : (front rest : List ℕ) → drop (length front) (front ++ rest) ≡ rest
rest_is [] rest = refl
rest_is (x ∷ xs) rest = rest_is xs rest

digits_pass : (p : ℕ → Bool) (digits : List ℕ) → are_digits p digits ≡ true → list_all (in_digits p) digits ≡ true
digits_pass p [] h = refl
digits_pass p (x ∷ xs) h = by_test (p x) refl h
  where
    by_test : (t : Bool) → p x ≡ t → t && list_all (in_digits p) xs ≡ true → (t || (x == 95)) && list_all (in_digits p) xs ≡ true
    by_test true q h = h
    by_test false q h = absurd (let k : false ≡ true = h in cc)

-- ---- no suffix begins with a digit or `_`

differs : (q : ℕ → Bool) (s c : ℕ) → q s ≡ true → q c ≡ false → (s == c) ≡ false
differs q s c is isnt = ne_eqb s c (λ e. let same : q s ≡ q c = ap q e in absurd (let k : true ≡ false = sym is ∙ same ∙ isnt in cc))

no_time : (s : ℕ) (ss : List ℕ) → in_digits is_digit s ≡ true → time_factor (s ∷ ss) ≡ None
no_time s ss is =
    let n : (s == 110) ≡ false = differs (in_digits is_digit) s 110 is refl in
    let m : (s == 109) ≡ false = differs (in_digits is_digit) s 109 is refl in
    let e : (s == 115) ≡ false = differs (in_digits is_digit) s 115 is refl in
    let h : (s == 104) ≡ false = differs (in_digits is_digit) s 104 is refl in
    let d : (s == 100) ≡ false = differs (in_digits is_digit) s 100 is refl in
    rw (n, m, e, h, d) refl

no_decimal : (s : ℕ) (ss : List ℕ) (v : ℕ) → in_digits is_digit s ≡ true → decimal_number (s ∷ ss) v ≡ None
no_decimal s ss v is =
    let l : (s == 76) ≡ false = differs (in_digits is_digit) s 76 is refl in
    rw l (ap (option_and_then (λ factor. long_within (2 ^ 63 - 1) (v * factor))) (no_time s ss is))

no_hex : (s : ℕ) (ss : List ℕ) (v : ℕ) → in_digits is_hex_digit s ≡ true → hex_number (s ∷ ss) v ≡ None
no_hex s ss v is = let l : (s == 76) ≡ false = differs (in_digits is_hex_digit) s 76 is refl in rw l refl

decimal_ends : (suffix : List ℕ) (v : ℕ) (n : Number) → decimal_number suffix v ≡ Some n → Ends (in_digits is_digit) suffix
decimal_ends [] v n h = tt
decimal_ends (s ∷ ss) v n h = by_test (in_digits is_digit s) refl
  where
    by_test : (t : Bool) → in_digits is_digit s ≡ t → t ≡ false
    by_test true q = absurd (none_some n (sym (no_decimal s ss v q) ∙ h))
    by_test false q = refl

hex_ends : (suffix : List ℕ) (v : ℕ) (n : Number) → hex_number suffix v ≡ Some n → Ends (in_digits is_hex_digit) suffix
hex_ends [] v n h = tt
hex_ends (s ∷ ss) v n h = by_test (in_digits is_hex_digit s) refl
  where
    by_test : (t : Bool) → in_digits is_hex_digit s ≡ t → t ≡ false
    by_test true q = absurd (none_some n (sym (no_hex s ss v q) ∙ h))
    by_test false q = refl

-- ---- numerals

decimal_complete : (digits suffix : List ℕ) (n : Number) → are_digits is_digit digits ≡ true → decimal_number suffix (digits_value 10 digits) ≡ Some n
    → decimal_of (digits ++ suffix) ≡ Some n
decimal_complete digits suffix n run is =
    let front : digits_of is_digit (digits ++ suffix) ≡ digits =
    front_is (in_digits is_digit) digits suffix (digits_pass is_digit digits run) (decimal_ends suffix (digits_value 10 digits) n is) in
    ap (λ (d : List ℕ). cond (are_digits is_digit d) (decimal_number (drop (length d) (digits ++ suffix)) (digits_value 10 d)) None) front
    ∙ rw run (ap (λ (r : List ℕ). decimal_number r (digits_value 10 digits)) (rest_is digits suffix) ∙ is)

hex_complete : (digits suffix : List ℕ) (n : Number) → are_digits is_hex_digit digits ≡ true → hex_number suffix (digits_value 16 digits) ≡ Some n
    → hex_of (digits ++ suffix) ≡ Some n
hex_complete digits suffix n run is =
    let front : digits_of is_hex_digit (digits ++ suffix) ≡ digits =
    front_is (in_digits is_hex_digit) digits suffix (digits_pass is_hex_digit digits run) (hex_ends suffix (digits_value 16 digits) n is) in
    ap (λ (d : List ℕ). cond (are_digits is_hex_digit d) (hex_number (drop (length d) (digits ++ suffix)) (digits_value 16 d)) None) front
    ∙ rw run (ap (λ (r : List ℕ). hex_number r (digits_value 16 digits)) (rest_is digits suffix) ∙ is)

decimal_sound : (bytes : List ℕ) (n : Number) → decimal_of bytes ≡ Some n → DenotesDecimal bytes n
decimal_sound bytes n h = by_test (are_digits is_digit (digits_of is_digit bytes)) refl h
  where
    by_test : (t : Bool) → are_digits is_digit (digits_of is_digit bytes) ≡ t
        → cond t (decimal_number (suffix_of is_digit bytes) (digits_value 10 (digits_of is_digit bytes))) None ≡ Some n → DenotesDecimal bytes n
    by_test true q h = (digits_of is_digit bytes, suffix_of is_digit bytes, front_and_rest (in_digits is_digit) bytes, q, h)
    by_test false q h = absurd (none_some n h)

hex_sound : (bytes : List ℕ) (n : Number) → hex_of bytes ≡ Some n → DenotesHex (48 ∷ 120 ∷ bytes) n
hex_sound bytes n h = by_test (are_digits is_hex_digit (digits_of is_hex_digit bytes)) refl h
  where
    by_test : (t : Bool) → are_digits is_hex_digit (digits_of is_hex_digit bytes) ≡ t
        → cond t (hex_number (suffix_of is_hex_digit bytes) (digits_value 16 (digits_of is_hex_digit bytes))) None ≡ Some n → DenotesHex (48 ∷ 120 ∷ bytes) n
    by_test true q h = (
      digits_of is_hex_digit bytes,
      suffix_of is_hex_digit bytes,
      ap (λ (r : List ℕ). 48 ∷ 120 ∷ r) (front_and_rest (in_digits is_hex_digit) bytes),
      q,
      h,
    )
    by_test false q h = absurd (none_some n h)

prefixed_sound : (bytes : List ℕ) (n : Number) → prefixed_hex_of bytes ≡ Some n → DenotesHex bytes n
prefixed_sound [] n h = absurd (none_some n h)
prefixed_sound (z ∷ []) n h = absurd (none_some n h)
prefixed_sound (z ∷ x ∷ bytes) n h = by_tests (z == 48) (x == 120) refl refl h
  where
    by_tests : (s t : Bool) → (z == 48) ≡ s → (x == 120) ≡ t → cond (s && t) (hex_of bytes) None ≡ Some n → DenotesHex (z ∷ x ∷ bytes) n
    by_tests true true p q h =
        let first : z ≡ 48 = (Decides-eqb z 48).0 p in
        let second : x ≡ 120 = (Decides-eqb x 120).0 q in
        subst (λ (a : ℕ). DenotesHex (a ∷ x ∷ bytes) n) (sym first) (subst (λ (b : ℕ). DenotesHex (48 ∷ b ∷ bytes) n) (sym second) (hex_sound bytes n h))
    by_tests true false p q h = absurd (none_some n h)
    by_tests false t p q h = absurd (none_some n h)

-- ---- integers

sound : (bytes : List ℕ) (n : Number) → integer_of bytes ≡ Some n → Denotes bytes n
sound bytes n h = by_hex (prefixed_hex_of bytes) refl h
  where
    by_hex : (o : Option Number) → prefixed_hex_of bytes ≡ o → option_or o (decimal_of bytes) ≡ Some n → Denotes bytes n
    by_hex (Some m) q h = inr (prefixed_sound bytes n (q ∙ h))
    by_hex None q h = inl (decimal_sound bytes n h)

decimal_there : (bytes : List ℕ) (n : Number) → decimal_of bytes ≡ Some n → integer_of bytes ≡ None → ⊥
decimal_there bytes n h none = by_hex (prefixed_hex_of bytes) (ap (option_or (prefixed_hex_of bytes)) (sym h) ∙ none)
  where
    by_hex : (o : Option Number) → option_or o (Some n) ≡ None → ⊥
    by_hex (Some m) e = none_some m (sym e)
    by_hex None e = none_some n (sym e)

hex_there : (bytes : List ℕ) (n : Number) → prefixed_hex_of bytes ≡ Some n → integer_of bytes ≡ None → ⊥
hex_there bytes n h none = none_some n (sym none ∙ ap (λ (o : Option Number). option_or o (decimal_of bytes)) h)

complete : (bytes : List ℕ) (n : Number) → Denotes bytes n → integer_of bytes ≡ None → ⊥
complete bytes n (inl (digits, suffix, e, run, is)) none = decimal_there bytes n (ap decimal_of e ∙ decimal_complete digits suffix n run is) none
complete bytes n (inr (digits, suffix, e, run, is)) none = hex_there bytes n (ap prefixed_hex_of e ∙ hex_complete digits suffix n run is) none

pub integer_is : (bytes : List ℕ) (r : Option Number) → FindsOne (Denotes bytes) r → r ≡ integer_of bytes
integer_is bytes r f = is r (integer_of bytes) refl f
  where
    is : (r o : Option Number) → integer_of bytes ≡ o → FindsOne (Denotes bytes) r → r ≡ o
    is None None q f = refl
    is None (Some m) q f = absurd (f m (sound bytes m q))
    is (Some n) None q f = absurd (complete bytes n f.0 q)
    is (Some n) (Some m) q f = let same : m ≡ n = f.1 m (sound bytes m q) in ap Some (sym same)
