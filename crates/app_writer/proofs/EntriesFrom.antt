-- The entries of a finite map from a key on.
use Rattle.std.proofs.Common.{◌≡◌, ◌≢◌, ℕ, ◌+◌, ◌<◌, ◌≤◌, Bool, true, false, cond, List, [], ◌∷◌, refl, sym, ◌∙◌, ap, arith}
use Rattle.std.specs.Prelude.{Option, Some, None, ◌&&◌, T, nat_le}
use Rattle.std.specs.List.{AllByRecursion}
use Rattle.std.specs.FinMap.{find, is_sorted}
use Rattle.std.specs.FinMap.Entries.{below_all}
use Rattle.std.specs.Ordering.{nat_cmp, eq_by_cmp, is_lt}
use Rattle.std.proofs.lemmas.Bool.Decides.{nat_tests}
use Rattle.sed_value.proofs.Orders.{tied_same, tied_apart, below_is}

pub tied_is : (a b : ℕ) → eq_by_cmp nat_cmp a b ≡ true → a ≡ b
tied_is a b is = grind (arith, nat_tests)

at_most : (a b : ℕ) → a ≤ b → nat_le a b ≡ true
at_most a b le = grind (arith, nat_tests)

not_at_most : (a b : ℕ) → b < a → nat_le a b ≡ false
not_at_most a b lt = grind (arith, nat_tests)

is_at_most : (a b : ℕ) → nat_le a b ≡ true → a ≤ b
is_at_most a b is = grind (arith, nat_tests)

is_above : (a b : ℕ) → nat_le a b ≡ false → b < a
is_above a b is = grind (arith, nat_tests)

first_of : (a b : Bool) → T (a && b) → T a
first_of true b h = tt
first_of false b h = h

second_of : (a b : Bool) → T (a && b) → T b
second_of true b h = h
second_of false b h = absurd h

module _ {V : Type 0} where
  -- those behind the first one whose key is at least this, and it
  abbrev pub entries_from : ℕ → List (ℕ × V) → List (ℕ × V)
  entries_from n [] = []
  entries_from n (e ∷ es) = cond (nat_le n e.0) (e ∷ es) (entries_from n es)

  pub from_first : (es : List (ℕ × V)) → entries_from 0 es ≡ es
  from_first [] = refl
  from_first (e ∷ es) = ap (λ (b : Bool). cond b (e ∷ es) (entries_from 0 es)) (at_most 0 e.0 (omega arith))

  -- above a key that is before them all are they all
  all_from : (k n : ℕ) (es : List (ℕ × V)) → T (below_all nat_cmp k es) → n ≤ k + 1 → entries_from n es ≡ es
  all_from k n [] below le = refl
  all_from k n (e ∷ es) below le =
      let less : k < e.0 = below_is k e.0 (first_of (is_lt (nat_cmp k e.0)) (below_all nat_cmp k es) below) in
      ap (λ (b : Bool). cond b (e ∷ es) (entries_from n es)) (at_most n e.0 (omega (arith, less, le)))

  not_found : (k n : ℕ) (es : List (ℕ × V)) → T (below_all nat_cmp k es) → n ≤ k → find nat_cmp n es ≡ None
  not_found k n [] below le = refl
  not_found k n (e ∷ es) below le =
      let less : k < e.0 = below_is k e.0 (first_of (is_lt (nat_cmp k e.0)) (below_all nat_cmp k es) below) in
      ap (λ (b : Bool). cond b (Some e.1) (find nat_cmp n es)) (tied_apart n e.0 (λ same. omega (arith, less, le, same)))
      ∙ not_found k n es (second_of (is_lt (nat_cmp k e.0)) (below_all nat_cmp k es) below) le

  -- one entry more, where the key has one
  unfoldable pub next_entry : Option V → ℕ → List (ℕ × V) → List (ℕ × V)
  next_entry None n es = es
  next_entry (Some v) n es = (n, v) ∷ es

  pub from_next : (n : ℕ) (es : List (ℕ × V)) → T (is_sorted nat_cmp es) → (r : Option V) → find nat_cmp n es ≡ r → next_entry r n (entries_from (n + 1) es) ≡ entries_from n es
  unfolding next_entry
  from_next n [] sorted None found = refl
  from_next n [] sorted (Some v) found = absurd (let no : ◌≡◌ {A = Option V} None (Some v) = found in cc)
  from_next n (e ∷ es) sorted r found =
      by_tie (λ (found : find nat_cmp n es ≡ r). from_next n es (second_of (below_all nat_cmp e.0 es) (is_sorted nat_cmp es) sorted) r found) (eq_by_cmp nat_cmp n e.0) refl
    where
      below : T (below_all nat_cmp e.0 es)
      below = first_of (below_all nat_cmp e.0 es) (is_sorted nat_cmp es) sorted

      -- the key of the first
      here : n ≡ e.0 → (r : Option V) → ◌≡◌ {A = Option V} (Some e.1) r → next_entry r n (entries_from (n + 1) (e ∷ es)) ≡ entries_from n (e ∷ es)
      here same None is = absurd (let no : ◌≡◌ {A = Option V} (Some e.1) None = is in cc)
      here same (Some v) is =
          let value : e.1 ≡ v = let s : ◌≡◌ {A = Option V} (Some e.1) (Some v) = is in cc in
          let behind : entries_from (n + 1) (e ∷ es) ≡ es =
          ap (λ (b : Bool). cond b (e ∷ es) (entries_from (n + 1) es)) (not_at_most (n + 1) e.0 (omega (arith, same))) ∙ all_from e.0 (n + 1) es below (omega (arith, same)) in
          let front : entries_from n (e ∷ es) ≡ e ∷ es = ap (λ (b : Bool). cond b (e ∷ es) (entries_from n es)) (at_most n e.0 (omega (arith, same))) in
          let entry : ◌≡◌ {A = ℕ × V} (n, v) e = λ i. (same i, sym value i) in
          (λ i. entry i ∷ behind i) ∙ sym front

      -- a key before it, or behind it
      apart : (find nat_cmp n es ≡ r → next_entry r n (entries_from (n + 1) es) ≡ entries_from n es) → n ≢ e.0 → (b : Bool) → nat_le n e.0 ≡ b → find nat_cmp n es ≡ r → next_entry r n (entries_from (n + 1) (e ∷ es)) ≡ entries_from n (e ∷ es)
      apart later ne true le found =
          let least : n ≤ e.0 = is_at_most n e.0 le in
          let none : r ≡ None = sym found ∙ not_found e.0 n es below least in
          let more : n + 1 ≤ e.0 = omega (arith, least, ne) in
          ap (λ (r : Option V). next_entry r n (entries_from (n + 1) (e ∷ es))) none
          ∙ ap (λ (b : Bool). cond b (e ∷ es) (entries_from (n + 1) es)) (at_most (n + 1) e.0 more)
          ∙ sym (ap (λ (b : Bool). cond b (e ∷ es) (entries_from n es)) le)
      apart later ne false le found =
          let above : e.0 < n = is_above n e.0 le in
          ap (λ (b : Bool). next_entry r n (cond b (e ∷ es) (entries_from (n + 1) es))) (not_at_most (n + 1) e.0 (omega (arith, above)))
          ∙ later found
          ∙ sym (ap (λ (b : Bool). cond b (e ∷ es) (entries_from n es)) le)

      by_tie : (find nat_cmp n es ≡ r → next_entry r n (entries_from (n + 1) es) ≡ entries_from n es) → (b : Bool) → eq_by_cmp nat_cmp n e.0 ≡ b → next_entry r n (entries_from (n + 1) (e ∷ es)) ≡ entries_from n (e ∷ es)
      by_tie later true tie = here (tied_is n e.0 tie) r (sym (ap (λ (b : Bool). cond b (Some e.1) (find nat_cmp n es)) tie) ∙ found)
      by_tie later false tie =
          let ne : n ≢ e.0 = λ same. (let no : false ≡ true = sym tie ∙ ap (λ (k : ℕ). eq_by_cmp nat_cmp n k) (sym same) ∙ tied_same n in cc) in
          apart later ne (nat_le n e.0) refl (sym (ap (λ (b : Bool). cond b (Some e.1) (find nat_cmp n es)) tie) ∙ found)

  pub from_end : (n : ℕ) (es : List (ℕ × V)) → AllByRecursion (λ (e : ℕ × V). e.0 < n) es → entries_from n es ≡ []
  from_end n [] less = refl
  from_end n (e ∷ es) less = ap (λ (b : Bool). cond b (e ∷ es) (entries_from n es)) (not_at_most n e.0 less.0) ∙ from_end n es less.1
