-- Names with commas between them.
use Rattle.std.proofs.Common.{◌≡◌, Bor, ◌<◌, ◌≤◌, ◌+◌, ℕ, Bool, true, false, List, [], ◌∷◌, length, Option, Some, None, refl, sym, ap, ◌∙◌, arith, length-drop}
use Rattle.std.specs.Prelude.{◌==◌, ◌&&◌, nat_le, MatchOption, IfSome, IfNone}
use Rattle.std.specs.List.{list_all, slice_split, position_or_len, before_first, after_first}
use Rattle.std.proofs.lemmas.Bool.{le-leb, lt-leb}
use Rattle.std.proofs.lemmas.List.Elements.{All-from_get_or}
use Rattle.std.proofs.lemmas.List.Sums.{fails_before_first}
use Rattle.std.proofs.lemmas.List.Splits.{length-slice_split, slice_split_first, slice_split_none}
use Rattle.sedona_words.specs.Command.{are_manifests, is_file_name, names_within}

abbrev pub is_comma : ℕ → Bool
is_comma b = b == 44

-- a word has at least one name
pub one_within : (word : List ℕ) → 1 ≤ length (names_within word)
one_within word = let size = length-slice_split is_comma word in omega (arith, size)

-- what stands before the first comma, and what stands behind it
pub cut_there : (word front back : List ℕ) → position_or_len is_comma word < length word → front ≡ before_first is_comma word → back ≡ after_first is_comma word
    → names_within word ≡ front ∷ names_within back
cut_there word front back there is are =
    slice_split_first is_comma word 0 there
    ∙ ap (λ (f : List ℕ). f ∷ slice_split is_comma (after_first is_comma word)) (sym is)
    ∙ ap (λ (b : List ℕ). front ∷ slice_split is_comma b) (sym are)

-- no comma
pub not_cut : (word : List ℕ) → position_or_len is_comma word ≡ length word → names_within word ≡ word ∷ []
not_cut word none = slice_split_none is_comma word (All-from_get_or (λ b. is_comma b ≡ false) word 0 (λ i small. fails_before_first is_comma word i 0 (omega (arith, none, small))))

-- ---- at most 15 names of files

-- of which so many were passed
abbrev pub are_names : ℕ → List (List ℕ) → Bool
are_names k names = nat_le (k + length names) 15 && list_all is_file_name names

pub first_names : (word : List ℕ) → are_manifests (names_within word) ≡ are_names 0 (names_within word)
first_names word =
    ap (λ (b : Bool). b && nat_le (length (names_within word)) 15 && list_all is_file_name (names_within word)) (le-leb 1 (length (names_within word)) (one_within word))
    ∙ ap (λ (n : ℕ). nat_le n 15 && list_all is_file_name (names_within word)) (let e : length (names_within word) ≡ 0 + length (names_within word) = omega arith in e)

pub too_many : (k : ℕ) (name : List ℕ) (names : List (List ℕ)) → k ≡ 14 → 1 ≤ length names → are_names k (name ∷ names) ≡ false
too_many k name names is some = ap (λ (b : Bool). b && list_all is_file_name (name ∷ names)) (lt-leb (k + length (name ∷ names)) 15 (omega (arith, is, some)))

and_false : (a b : Bool) → b ≡ false → (a && b) ≡ false
and_false true b is = is
and_false false b is = refl

pub no_name : (k : ℕ) (name : List ℕ) (names : List (List ℕ)) → is_file_name name ≡ false → are_names k (name ∷ names) ≡ false
no_name k name names is = and_false (nat_le (k + length (name ∷ names)) 15) (list_all is_file_name (name ∷ names)) (ap (λ (b : Bool). b && list_all is_file_name names) is)

-- ---- one cut

abbrev pub Cut : List ℕ → Option (Bor (List ℕ) × Bor (List ℕ)) → Type 0
Cut word r = MatchOption r (position_or_len is_comma word ≡ length word)
    (λ x. (position_or_len is_comma word < length word) × (x.0.now ≡ before_first is_comma word) × (x.1.now ≡ after_first is_comma word))

pub cut_some : (word : List ℕ) (r : Option (Bor (List ℕ) × Bor (List ℕ))) → Cut word r → IfSome r (λ parts. names_within word ≡ parts.0.now ∷ names_within parts.1.now)
cut_some word None m = tt
cut_some word (Some parts) m = cut_there word parts.0.now parts.1.now m.0 m.1 m.2

pub cut_less : (word : List ℕ) (r : Option (Bor (List ℕ) × Bor (List ℕ))) → Cut word r → IfSome r (λ parts. length parts.1.now < length word)
cut_less word None m = tt
cut_less word (Some parts) m =
    let size = ap (λ (l : List ℕ). length l) m.2 in
    let rest = length-drop (position_or_len is_comma word + 1) word in
    omega (arith, size, rest, m.0)

pub cut_none : (word : List ℕ) (r : Option (Bor (List ℕ) × Bor (List ℕ))) → Cut word r → IfNone r (names_within word ≡ word ∷ [])
cut_none word None m = not_cut word m
cut_none word (Some parts) m = tt
