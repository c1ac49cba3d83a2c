-- The entries of a finite map.
use Rattle.std.proofs.Common.{◌≡◌, ℕ, ◌<◌, Bool, true, false, cond, List, [], ◌∷◌, ◌∙◌, ap, arith}
use Rattle.std.specs.Prelude.{Some, ◌&&◌, T}
use Rattle.std.specs.List.{AllByRecursion}
use Rattle.std.specs.FinMap as finite
use Rattle.std.specs.FinMap.{FinMap, find, is_sorted}
use Rattle.std.specs.FinMap.Entries.{below_all}
use Rattle.std.specs.Ordering.{nat_cmp, eq_by_cmp, is_lt}
use Rattle.std.proofs.lemmas.Bool.Decides.{nat_tests}
use Rattle.sed_value.proofs.Orders.{tied_same, tied_apart, below_is}

pub tied_is : (a b : ℕ) → eq_by_cmp nat_cmp a b ≡ true → a ≡ b
tied_is a b is = grind (arith, nat_tests)

first_of : (a b : Bool) → T (a && b) → T a
first_of true b h = tt
first_of false b h = h

second_of : (a b : Bool) → T (a && b) → T b
second_of true b h = h
second_of false b h = absurd h

module _ {V : Type 0} where
  -- an entry in front changes nothing for those that come behind it
  later_found : (e : ℕ × V) (all es : List (ℕ × V)) → T (below_all nat_cmp e.0 es) → AllByRecursion (λ f. find nat_cmp f.0 all ≡ Some f.1) es
      → AllByRecursion (λ f. find nat_cmp f.0 (e ∷ all) ≡ Some f.1) es
  later_found e all [] below found = tt
  later_found e all (f ∷ es) below found =
      let less : e.0 < f.0 = below_is e.0 f.0 (first_of (is_lt (nat_cmp e.0 f.0)) (below_all nat_cmp e.0 es) below) in
      let other : eq_by_cmp nat_cmp f.0 e.0 ≡ false = tied_apart f.0 e.0 (λ same. omega (arith, less, same)) in (
        ap (λ b. cond b (Some e.1) (find nat_cmp f.0 all)) other ∙ found.0,
        later_found e all es (second_of (is_lt (nat_cmp e.0 f.0)) (below_all nat_cmp e.0 es) below) found.1,
      )

  -- each entry is found by its key
  each_found : (es : List (ℕ × V)) → T (is_sorted nat_cmp es) → AllByRecursion (λ f. find nat_cmp f.0 es ≡ Some f.1) es
  each_found [] sorted = tt
  each_found (e ∷ es) sorted =
      let below = first_of (below_all nat_cmp e.0 es) (is_sorted nat_cmp es) sorted in
      let rest = second_of (below_all nat_cmp e.0 es) (is_sorted nat_cmp es) sorted in
      (ap (λ b. cond b (Some e.1) (find nat_cmp e.0 es)) (tied_same e.0), later_found e es es below (each_found es rest))

  got_each : (m : FinMap nat_cmp V) (es : List (ℕ × V)) → AllByRecursion (λ f. find nat_cmp f.0 (finite.entries m) ≡ Some f.1) es
      → AllByRecursion (λ f. finite.get m f.0 ≡ Some f.1) es
  got_each m [] found = tt
  got_each m (e ∷ es) found = (finite.get-entries m e.0 ∙ found.0, got_each m es found.1)

  pub entries_are_got : (m : FinMap nat_cmp V) → AllByRecursion (λ f. finite.get m f.0 ≡ Some f.1) (finite.entries m)
  entries_are_got m = got_each m (finite.entries m) (each_found (finite.entries m) (finite.entries_sorted m))
