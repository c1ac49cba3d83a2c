-- The longest front of a text whose elements pass a test.
use Rattle.std.proofs.Common.{◌≡◌, ℕ, suc, ◌+◌, ◌≤◌, Bool, true, false, ◌||◌, ◌&&◌, ◌==◌, nat_eq, cond, IsTrue, List, [], ◌∷◌, ◌++◌, length, take, drop, take_while, ◌⊎◌, inl, inr, refl, sym, ap, ◌∙◌, arith}
use Rattle.std.specs.List.{list_all, prefix_len, starts_with}
use Rattle.std.proofs.lemmas.Bool.Decides.{Decides-eqb}
use Rattle.std.proofs.lemmas.List.Folds.{length-prefix_len, list_all-append}
use Rattle.std.proofs.lemmas.List.Sums.{prefix_len-le-length}
use Rattle.std.proofs.lemmas.Slice.Eq.{starts_is}
use Rattle.sed_value.specs.Characters.{is_letter}
use Rattle.sed_value.specs.Names.{is_first_then, is_identifier}
use Rattle.sed_lexer.specs.Fronts.{IsLongestFront}
pub use Rattle.sed_value.proofs.Truths.{and_left, and_right}
pub use Rattle.std.proofs.lemmas.Bool.{and_from as and_both}

pub or_cases : (a b : Bool) → (a || b) ≡ true → (a ≡ true) ⊎ (b ≡ true)
or_cases true b h = inl refl
or_cases false b h = inr h

-- as many of the elements as pass do pass
pub passes : (p : ℕ → Bool) (text : List ℕ) → list_all p (take (prefix_len p text) text) ≡ true
passes p [] = refl
passes p (b ∷ bs) = with_test (p b) refl (passes p bs)
  where
    with_test : (t : Bool) → p b ≡ t → list_all p (take (prefix_len p bs) bs) ≡ true → list_all p (take (cond t (1 + prefix_len p bs) 0) (b ∷ bs)) ≡ true
    with_test true e rest =
        let s : 1 + prefix_len p bs ≡ suc (prefix_len p bs) = omega arith in
        rw s (and_both (p b) (list_all p (take (prefix_len p bs) bs)) e rest)
    with_test false e rest = refl

-- elements that pass, at the front, are no more than those
pub most_passes : (p : ℕ → Bool) (bytes after : List ℕ) → list_all p bytes ≡ true → length bytes ≤ prefix_len p (bytes ++ after)
most_passes p [] after all = omega arith
most_passes p (b ∷ bs) after all =
    let here : p b ≡ true = and_left (p b) (list_all p bs) all in
    let rest : length bs ≤ prefix_len p (bs ++ after) = most_passes p bs after (and_right (p b) (list_all p bs) all) in
    rw here (omega (arith, rest))

-- the fronts of one list, of one length, are one
pub same_fronts : (a b x y : List ℕ) → a ++ x ≡ b ++ y → length a ≡ length b → (a ≡ b) × (x ≡ y)
same_fronts [] [] x y e n = (refl, e)
same_fronts [] (b ∷ bs) x y e n = absurd (omega arith)
same_fronts (a ∷ as') [] x y e n = absurd (omega arith)
same_fronts (a ∷ as') (b ∷ bs) x y e n =
    let head : a ≡ b = cc in
    let tail : as' ++ x ≡ bs ++ y = cc in
    let size : length as' ≡ length bs = omega arith in
    let rest = same_fronts as' bs x y tail size in
    (let tails : as' ≡ bs = rest.0 in cc, rest.1)

-- of two fronts of one list the longer begins with the shorter
pub front_in_front : (a b x y : List ℕ) → a ++ x ≡ b ++ y → length a ≤ length b → (mid : List ℕ) × (b ≡ a ++ mid)
front_in_front [] b x y e le = (b, refl)
front_in_front (a ∷ as') [] x y e le = absurd (omega arith)
front_in_front (a ∷ as') (b ∷ bs) x y e le =
    let head : a ≡ b = cc in
    let tail : as' ++ x ≡ bs ++ y = cc in
    let size : length as' ≤ length bs = omega arith in
    let rest = front_in_front as' bs x y tail size in
    (rest.0, let more : bs ≡ as' ++ rest.0 = rest.1 in cc)

-- bytes that begin a text begin it there
pub starts_text : (text bytes : List ℕ) → starts_with nat_eq text bytes ≡ true → text ≡ bytes ++ drop (length bytes) text
starts_text text bytes is = (starts_is Decides-eqb text bytes (starts_with nat_eq text bytes) refl).0 is

pub text_starts : (text bytes rest : List ℕ) → text ≡ bytes ++ rest → starts_with nat_eq text bytes ≡ true
text_starts text bytes rest e = (starts_is Decides-eqb text bytes (starts_with nat_eq text bytes) refl).1 rest e

pub not_both : (b : Bool) → b ≡ false → b ≡ true → ⊥
not_both b is_false is_true = cc

abbrev pub IsRun : (ℕ → Bool) → (ℕ → Bool) → List ℕ → Type 0
IsRun p q bytes = IsTrue (is_first_then p q bytes)

-- the run that begins with this byte
pub run_found : (p q : ℕ → Bool) (b : ℕ) (bs : List ℕ) (n : ℕ) → p b ≡ true → n ≡ length (take_while q bs) → IsLongestFront (IsRun p q) (b ∷ bs) (1 + n)
run_found p q b bs n lead size = rw s (record {
  within = omega (arith, prefix_len-le-length q bs, same);
  has = and_both (p b) (list_all q (take n bs)) lead (rw same (passes q bs));
  most = most;
})
  where
    s : 1 + n ≡ suc n
    s = omega arith

    same : n ≡ prefix_len q bs
    same = size ∙ length-prefix_len q bs

    most : (bytes after : List ℕ) → b ∷ bs ≡ bytes ++ after → IsRun p q bytes → length bytes ≤ suc n
    most [] after e is = omega arith
    most (c ∷ cs) after e is =
        let tail : bs ≡ cs ++ after = cc in
        let k : length cs ≤ prefix_len q (cs ++ after) = most_passes q cs after (and_right (p c) (list_all q cs) is) in
        omega (arith, k, same, ap (prefix_len q) tail)

-- what follows a run within a longer one passes
pub run_goes_on : (p q : ℕ → Bool) (digits : List ℕ) (s : ℕ) (mid : List ℕ) → IsRun p q digits → IsRun p q ((digits ++ s ∷ []) ++ mid) → q s ≡ true
run_goes_on p q [] s mid run more = cc
run_goes_on p q (d ∷ ds) s mid run more =
    let all : list_all q ((ds ++ s ∷ []) ++ mid) ≡ true = and_right (p d) (list_all q ((ds ++ s ∷ []) ++ mid)) more in
    let front = and_left (list_all q (ds ++ s ∷ [])) (list_all q mid) (sym (list_all-append q (ds ++ s ∷ []) mid) ∙ all) in
    and_left (q s) true (and_right (list_all q ds) (q s && true) (sym (list_all-append q ds (s ∷ [])) ∙ front))

-- a letter or `_`
abbrev pub is_word_lead : ℕ → Bool
is_word_lead b = is_letter b || (b == 95)

abbrev pub IsWord : List ℕ → Type 0
IsWord bytes = IsTrue (is_identifier bytes)
