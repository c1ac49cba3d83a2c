-- The blank or comment that begins a text.
use Rattle.std.proofs.Common.{◌≡◌, ℕ, suc, ◌+◌, ◌<◌, ◌≤◌, Bool, true, false, not, ◌||◌, ◌&&◌, ◌==◌, nat_eq, List, [], ◌∷◌, ◌++◌, length, take, drop, take_while, codes, Option, Some, None, ◌⊎◌, inl, inr, refl, sym, ap, subst, ◌∙◌, arith, append_assoc}
use Rattle.std.specs.List.{list_all, list_any, prefix_len, starts_with}
use Rattle.std.proofs.Math.Seq.{take-append-add}
use Rattle.std.proofs.lemmas.Bool.{cases_lt}
use Rattle.std.proofs.lemmas.Bool.Decides.{Decides-eqb}
use Rattle.std.proofs.lemmas.List.{length-take-le, take-append-drop, length-append, length-drop, drop-drop, drop_at}
use Rattle.std.proofs.lemmas.List.Folds.{length-prefix_len}
use Rattle.std.proofs.lemmas.List.Sums.{prefix_len-le-length}
use Rattle.sed_lexer.specs.Gaps.{is_line_end, has_line_end, is_blank, IsBlank, IsLineComment, IsBlockComment, IsGap}
use Rattle.sed_lexer.specs.Fronts.{NoFront, IsLongestFront, FindsLongest, StandsFirst}
use Rattle.sed_lexer.proofs.FrontLemmas.{passes, most_passes, and_left, and_right, or_cases, not_both, front_in_front, starts_text, text_starts}

-- a blank is one of four bytes
pub blank_passes : (P : ℕ → Type 0) (b : ℕ) → is_blank b ≡ true → P 9 → P 13 → P 32 → P 10 → P b
blank_passes P b is tab return' space line =
    elim (or_cases ((b == 9) || (b == 13) || (b == 32)) (b == 10) is) [
      | inl most ↦ elim (or_cases ((b == 9) || (b == 13)) (b == 32) most) [
        | inl first ↦ elim (or_cases (b == 9) (b == 13) first) [ inl h ↦ at 9 h tab | inr h ↦ at 13 h return' ]
        | inr h ↦ at 32 h space
      ]
      | inr h ↦ at 10 h line
    ]
  where
    at : (n : ℕ) → (b == n) ≡ true → P n → P b
    at n h p = subst P (sym ((Decides-eqb b n).0 h)) p

all_pass_none : (p : ℕ → Bool) (xs : List ℕ) → list_all (λ x. not (p x)) xs ≡ true → list_any p xs ≡ false
all_pass_none p [] all = refl
all_pass_none p (x ∷ xs) all =
    neither (p x) (list_any p xs) (and_left (not (p x)) (list_all (λ y. not (p y)) xs) all) (all_pass_none p xs (and_right (not (p x)) (list_all (λ y. not (p y)) xs) all))
  where
    neither : (a b : Bool) → not a ≡ true → b ≡ false → (a || b) ≡ false
    neither true b h k = cc
    neither false b h k = k

none_all_pass : (p : ℕ → Bool) (xs : List ℕ) → list_any p xs ≡ false → list_all (λ x. not (p x)) xs ≡ true
none_all_pass p [] none = refl
none_all_pass p (x ∷ xs) none = with_test (p x) none (none_all_pass p xs)
  where
    with_test : (t : Bool) → (t || list_any p xs) ≡ false → (list_any p xs ≡ false → list_all (λ y. not (p y)) xs ≡ true) → (not t && list_all (λ y. not (p y)) xs) ≡ true
    with_test true h rest = cc
    with_test false h rest = rest h

abbrev goes_on : ℕ → Bool
goes_on b = not (is_line_end b)

line_at : (a : ℕ) (rest : List ℕ) (n : ℕ) → ((words : List ℕ) → (a ∷ a ∷ words ≡ codes "//" ++ words) ⊎ (a ∷ a ∷ words ≡ codes "**" ++ words))
    → n ≡ length (take_while goes_on rest) → IsLongestFront IsLineComment (a ∷ a ∷ rest) (suc (suc n))
line_at a rest n lead size = record {
  within = omega (arith, prefix_len-le-length goes_on rest, same);
  has = (take n rest, lead (take n rest), all_pass_none is_line_end (take n rest) (rw same (passes goes_on rest)));
  most = most;
}
  where
    same : n ≡ prefix_len goes_on rest
    same = size ∙ length-prefix_len goes_on rest

    behind : (words after : List ℕ) → rest ≡ words ++ after → has_line_end words ≡ false → length words ≤ n
    behind words after e clean =
        let k : length words ≤ prefix_len goes_on (words ++ after) = most_passes goes_on words after (none_all_pass is_line_end words clean) in
        omega (arith, k, same, ap (prefix_len goes_on) e)

    most : (bytes after : List ℕ) → a ∷ a ∷ rest ≡ bytes ++ after → IsLineComment bytes → length bytes ≤ suc (suc n)
    most bytes after e (words, inl sort, clean) =
        let whole : a ∷ a ∷ rest ≡ 47 ∷ 47 ∷ (words ++ after) = e ∙ ap (λ (x : List ℕ). x ++ after) sort in
        let tail : rest ≡ words ++ after = cc in
        omega (arith, behind words after tail clean, ap length sort)
    most bytes after e (words, inr sort, clean) =
        let whole : a ∷ a ∷ rest ≡ 42 ∷ 42 ∷ (words ++ after) = e ∙ ap (λ (x : List ℕ). x ++ after) sort in
        let tail : rest ≡ words ++ after = cc in
        omega (arith, behind words after tail clean, ap length sort)

-- the comment to the end of the line
pub line_found : (text : List ℕ) (n : ℕ) → (starts_with nat_eq text (codes "//") || starts_with nat_eq text (codes "**")) ≡ true
    → n ≡ length (take_while goes_on (drop 2 text)) → IsLongestFront IsLineComment text (2 + n)
line_found text n starts size =
    let s : 2 + n ≡ suc (suc n) = omega arith in
    rw s (elim (or_cases (starts_with nat_eq text (codes "//")) (starts_with nat_eq text (codes "**")) starts) [
      | inl h ↦ subst (λ (x : List ℕ). IsLongestFront IsLineComment x (suc (suc n))) (sym (starts_text text (codes "//") h)) (line_at 47 (drop 2 text) n (λ words. inl refl) size)
      | inr h ↦ subst (λ (x : List ℕ). IsLongestFront IsLineComment x (suc (suc n))) (sym (starts_text text (codes "**") h)) (line_at 42 (drop 2 text) n (λ words. inr refl) size)
    ])

not_left : (a b : Bool) → (a || b) ≡ false → a ≡ true → ⊥
not_left true b h k = cc
not_left false b h k = cc

not_right : (a b : Bool) → (a || b) ≡ false → b ≡ true → ⊥
not_right true b h k = cc
not_right false b h k = cc

pub no_line : (text : List ℕ) → (starts_with nat_eq text (codes "//") || starts_with nat_eq text (codes "**")) ≡ false → NoFront IsLineComment text
no_line text neither bytes after e (words, inl sort, clean) =
    not_left (starts_with nat_eq text (codes "//")) (starts_with nat_eq text (codes "**")) neither
    (text_starts text (codes "//") (words ++ after) (e ∙ ap (λ (x : List ℕ). x ++ after) sort))
no_line text neither bytes after e (words, inr sort, clean) =
    not_right (starts_with nat_eq text (codes "//")) (starts_with nat_eq text (codes "**")) neither
    (text_starts text (codes "**") (words ++ after) (e ∙ ap (λ (x : List ℕ). x ++ after) sort))

-- one place further in the search for the first of these bytes
pub no_earlier : (needle text : List ℕ) (at : ℕ) → ((earlier after : List ℕ) → text ≡ earlier ++ (needle ++ after) → at ≤ length earlier)
    → starts_with nat_eq (drop at text) needle ≡ false → (earlier after : List ℕ) → text ≡ earlier ++ (needle ++ after) → at + 1 ≤ length earlier
no_earlier needle text at so_far elsewhere earlier after e = elim (cases_lt at (length earlier)) [
  | inl less ↦ omega arith
  | inr more ↦
      let here : length earlier ≡ at = omega (arith, so_far earlier after e) in
      absurd (not_both (starts_with nat_eq (drop at text) needle) elsewhere
      (text_starts (drop at text) needle after (ap (drop at) e ∙ drop_at earlier (needle ++ after) at here)))
]

pub first_here : (needle text : List ℕ) (at : ℕ) → at ≤ length text → ((earlier after : List ℕ) → text ≡ earlier ++ (needle ++ after) → at ≤ length earlier)
    → starts_with nat_eq (drop at text) needle ≡ true → StandsFirst needle text at
first_here needle text at inside so_far starts = record {
  within = omega (arith, ap length begins, length-append needle (drop (length needle) (drop at text)), length-drop at text, inside);
  here = sym (take-append-drop at text) ∙ ap (λ (x : List ℕ). take at text ++ x) (begins ∙ ap (λ (x : List ℕ). needle ++ x) (drop-drop (length needle) at text));
  first = so_far;
}
  where
    begins : drop at text ≡ needle ++ drop (length needle) (drop at text)
    begins = starts_text (drop at text) needle starts

pub none_later : (needle text : List ℕ) (at : ℕ) → length text ≤ at → 0 < length needle → ((earlier after : List ℕ) → text ≡ earlier ++ (needle ++ after) → at ≤ length earlier)
    → (earlier after : List ℕ) → text ≡ earlier ++ (needle ++ after) → ⊥
none_later needle text at outside some so_far earlier after e =
    omega (arith, so_far earlier after e, ap length e, length-append earlier (needle ++ after), length-append needle after)

block_at : (rest : List ℕ) (n : ℕ) → StandsFirst (codes "*/") rest n → IsLongestFront IsBlockComment (47 ∷ 42 ∷ rest) (suc (suc (n + 2)))
block_at rest n end = record {
  within = omega (arith, end.within);
  has = (take (n + 2) rest, take n rest, refl, (ends, first));
  most = most;
}
  where
    tail : List ℕ
    tail = drop (n + 2) rest

    size : length (take n rest) ≡ n
    size = length-take-le n rest (omega (arith, end.within))

    ends : take (n + 2) rest ≡ take n rest ++ codes "*/"
    ends = ap (take (n + 2)) end.here ∙ ap (λ (k : ℕ). take (k + 2) (take n rest ++ (42 ∷ 47 ∷ drop (n + 2) rest))) (sym size)
        ∙ take-append-add (take n rest) (42 ∷ 47 ∷ drop (n + 2) rest) 2

    first : (earlier after : List ℕ) → take (n + 2) rest ≡ earlier ++ (codes "*/" ++ after) → length (take n rest) ≤ length earlier
    first earlier after e =
        let whole : rest ≡ earlier ++ (codes "*/" ++ (after ++ drop (n + 2) rest)) =
        sym (take-append-drop (n + 2) rest) ∙ ap (λ (x : List ℕ). x ++ drop (n + 2) rest) e ∙ append_assoc earlier (codes "*/" ++ after) (drop (n + 2) rest) in
        omega (arith, size, end.first earlier (after ++ drop (n + 2) rest) whole)

    most : (bytes after : List ℕ) → 47 ∷ 42 ∷ rest ≡ bytes ++ after → IsBlockComment bytes → length bytes ≤ suc (suc (n + 2))
    most bytes after e (inner, words, spelled, (inner_ends, inner_first)) =
        let whole : 47 ∷ 42 ∷ rest ≡ 47 ∷ 42 ∷ (inner ++ after) = e ∙ ap (λ (x : List ℕ). x ++ after) spelled in
        let behind : rest ≡ inner ++ after = cc in
        elim (cases_lt (n + 2) (length inner)) [
          | inl less ↦
              let both : (take n rest ++ codes "*/") ++ drop (n + 2) rest ≡ inner ++ after = append_assoc (take n rest) (codes "*/") (drop (n + 2) rest) ∙ sym end.here ∙ behind in
              let fits : length (take n rest ++ codes "*/") ≤ length inner = omega (arith, length-append (take n rest) (codes "*/"), size, less) in
              let front = front_in_front (take n rest ++ codes "*/") inner (drop (n + 2) rest) after both fits in
              let earlier : length words ≤ length (take n rest) = inner_first (take n rest) front.0 (front.1 ∙ append_assoc (take n rest) (codes "*/") front.0) in
              absurd (omega (arith, earlier, size, less, ap length inner_ends, length-append words (codes "*/")))
          | inr more ↦ omega (arith, more, ap length spelled)
        ]

-- the comment that the first `*/` ends
pub block_found : (text : List ℕ) (n : ℕ) → text ≡ 47 ∷ 42 ∷ drop 2 text → StandsFirst (codes "*/") (drop 2 text) n → IsLongestFront IsBlockComment text (n + 4)
block_found text n begins end =
    let s : n + 4 ≡ suc (suc (n + 2)) = omega arith in
    rw s (subst (λ (x : List ℕ). IsLongestFront IsBlockComment x (suc (suc (n + 2)))) (sym begins) (block_at (drop 2 text) n end))

pub no_block : (text : List ℕ) → text ≡ 47 ∷ 42 ∷ drop 2 text → ((earlier after : List ℕ) → drop 2 text ≡ earlier ++ (codes "*/" ++ after) → ⊥) → NoFront IsBlockComment text
no_block text begins none bytes after e (inner, words, spelled, (ends, first)) =
    let whole : 47 ∷ 42 ∷ drop 2 text ≡ 47 ∷ 42 ∷ (inner ++ after) = sym begins ∙ e ∙ ap (λ (x : List ℕ). x ++ after) spelled in
    let behind : drop 2 text ≡ inner ++ after = cc in
    none words after (behind ∙ ap (λ (x : List ℕ). x ++ after) ends ∙ append_assoc words (codes "*/") after)

-- the lead of a comment
abbrev is_comment_lead : ℕ → Bool
is_comment_lead b = (b == 47) || (b == 42)

no_blank_lead : (b : ℕ) → is_blank b ≡ true → is_comment_lead b ≡ true → ⊥
no_blank_lead b blank lead = blank_passes (λ (x : ℕ). is_comment_lead x ≡ true → ⊥) b blank (λ h. cc) (λ h. cc) (λ h. cc) (λ h. cc) lead

blank_size : (bytes : List ℕ) → IsBlank bytes → length bytes ≡ 1
blank_size bytes (b, e, is) = ap length e

comment_head : (b : ℕ) (words after front : List ℕ) (c : ℕ) (text : List ℕ) → text ≡ (b ∷ words) ++ after → text ≡ c ∷ front → b ≡ c
comment_head b words after front c text e f = let same : b ∷ (words ++ after) ≡ c ∷ front = sym e ∙ f in cc

pub blank_is_longest : (text : List ℕ) (n : ℕ) → IsLongestFront IsBlank text n → IsLongestFront IsGap text n
blank_is_longest text n found = record { within = found.within; has = inl found.has; most = most }
  where
    other : (bytes after : List ℕ) → text ≡ bytes ++ after → (a : ℕ) (more : List ℕ) → bytes ≡ a ∷ more → is_comment_lead a ≡ true → ⊥
    other bytes after e a more spelled lead =
        let b : ℕ = found.has.0 in
        let front : take n text ≡ b ∷ [] = found.has.1 in
        let one : b ∷ drop n text ≡ a ∷ (more ++ after) =
        ap (λ (x : List ℕ). x ++ drop n text) (sym front) ∙ take-append-drop n text ∙ e ∙ ap (λ (x : List ℕ). x ++ after) spelled in
        let same : b ≡ a = cc in
        no_blank_lead b found.has.2 (subst (λ (x : ℕ). is_comment_lead x ≡ true) (sym same) lead)

    most : (bytes after : List ℕ) → text ≡ bytes ++ after → IsGap bytes → length bytes ≤ n
    most bytes after e (inl blank) = found.most bytes after e blank
    most bytes after e (inr (inl (words, inl sort, clean))) = absurd (other bytes after e 47 (47 ∷ words) sort refl)
    most bytes after e (inr (inl (words, inr sort, clean))) = absurd (other bytes after e 42 (42 ∷ words) sort refl)
    most bytes after e (inr (inr (rest, words, spelled, ends))) = absurd (other bytes after e 47 (42 ∷ rest) spelled refl)

line_size : (bytes : List ℕ) → IsLineComment bytes → 2 ≤ length bytes
line_size bytes (words, inl sort, clean) = omega (arith, ap length sort)
line_size bytes (words, inr sort, clean) = omega (arith, ap length sort)

first_two : (a b c d : ℕ) (x y : List ℕ) → a ∷ b ∷ x ≡ c ∷ d ∷ y → (a ≡ c) × (b ≡ d)
first_two a b c d x y e = (cc, cc)

-- no comment to the end of a line begins as one in `/*` does
line_no_block : (bytes tail rest after : List ℕ) → bytes ++ tail ≡ 47 ∷ 42 ∷ (rest ++ after) → IsLineComment bytes → ⊥
line_no_block bytes tail rest after e (words, inl sort, clean) =
    let two : (47 ≡ 47) × (47 ≡ 42) = first_two 47 47 47 42 (words ++ tail) (rest ++ after) (ap (λ (x : List ℕ). x ++ tail) (sym sort) ∙ e) in
    omega (arith, two.1)
line_no_block bytes tail rest after e (words, inr sort, clean) =
    let two : (42 ≡ 47) × (42 ≡ 42) = first_two 42 42 47 42 (words ++ tail) (rest ++ after) (ap (λ (x : List ℕ). x ++ tail) (sym sort) ∙ e) in
    omega (arith, two.0)

pub line_is_longest : (text : List ℕ) (n : ℕ) → IsLongestFront IsLineComment text n → IsLongestFront IsGap text n
line_is_longest text n found = record { within = found.within; has = inr (inl found.has); most = most }
  where
    most : (bytes after : List ℕ) → text ≡ bytes ++ after → IsGap bytes → length bytes ≤ n
    most bytes after e (inl blank) = omega (arith, blank_size bytes blank, line_size (take n text) found.has, length-take-le n text found.within)
    most bytes after e (inr (inl line)) = found.most bytes after e line
    most bytes after e (inr (inr (rest, words, spelled, ends))) =
        absurd (line_no_block (take n text) (drop n text) rest after (take-append-drop n text ∙ e ∙ ap (λ (x : List ℕ). x ++ after) spelled) found.has)

pub block_is_longest : (text : List ℕ) (n : ℕ) → NoFront IsBlank text → NoFront IsLineComment text → IsLongestFront IsBlockComment text n → IsLongestFront IsGap text n
block_is_longest text n blank line found = record { within = found.within; has = inr (inr found.has); most = most }
  where
    most : (bytes after : List ℕ) → text ≡ bytes ++ after → IsGap bytes → length bytes ≤ n
    most bytes after e (inl is) = absurd (blank bytes after e is)
    most bytes after e (inr (inl is)) = absurd (line bytes after e is)
    most bytes after e (inr (inr is)) = found.most bytes after e is

pub no_gap : (text : List ℕ) → NoFront IsBlank text → NoFront IsLineComment text → NoFront IsBlockComment text → NoFront IsGap text
no_gap text blank line block bytes after e (inl is) = blank bytes after e is
no_gap text blank line block bytes after e (inr (inl is)) = line bytes after e is
no_gap text blank line block bytes after e (inr (inr is)) = block bytes after e is

pub block_or_none : (text : List ℕ) (found : Option ℕ) → NoFront IsBlank text → NoFront IsLineComment text → FindsLongest IsBlockComment text found → FindsLongest IsGap text found
block_or_none text None blank line found = no_gap text blank line found
block_or_none text (Some n) blank line found = block_is_longest text n blank line found
