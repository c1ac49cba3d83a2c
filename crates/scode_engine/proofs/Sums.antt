-- Sums over the values of a map, and over those that they are mapped to.
use Rattle.std.proofs.Common.{◌≡◌, ◌-◌, inl, inr, ℕ, zero, suc, ◌+◌, List, [], ◌∷◌, length, Bool, cond, refl, sym, ◌∙◌, ap, subst, arith}
use Rattle.std.specs.Prelude.{Option, Some, IfSome, is_some}
use Rattle.std.specs.Option.{option_map}
use Rattle.std.specs.FinMap as finite
use Rattle.std.specs.FinMap.{FinMap, find}
use Rattle.std.specs.Cmp.{nat_cmp_total}
use Rattle.std.specs.Ordering.{nat_cmp}
use Rattle.std.proofs.lemmas.Bool.{cases_eq}
use Rattle.sed_value.specs.Mapped.{map_values}
use Rattle.sed_value.proofs.Maps.{get-map_values, kept_beside, len-map_values, out-map_values, taken_out, total, total_less, total_none}
use Rattle.sed_value.proofs.Orders.{tied_same}

module _ {V : Type 0} where
  -- an entry of a map that has one at least
  some_entry : (m : FinMap nat_cmp V) (n : ℕ) → finite.len m ≡ suc n → (k : ℕ) × (v : V) × (finite.get m k ≡ Some v)
  some_entry m n long = go (finite.entries m) refl
    where
      go : (es : List (ℕ × V)) → finite.entries m ≡ es → (k : ℕ) × (v : V) × (finite.get m k ≡ Some v)
      go [] is =
          let none : finite.len m ≡ 0 = finite.len-entries m ∙ ap length is in
          absurd (omega (arith, long, none))
      go (e ∷ es) is = (
        e.0,
        e.1,
        finite.get-entries m e.0 ∙ ap (find nat_cmp e.0) is
            ∙ ap (λ (b : Bool). cond b (Some e.1) (find nat_cmp e.0 es)) (tied_same e.0),
      )

  one_less : (m : FinMap nat_cmp V) (k n : ℕ) (v : V) → finite.get m k ≡ Some v → finite.len m ≡ suc n
      → finite.len (finite.remove m k) ≡ n
  one_less m k n v at long =
      let less : finite.len (finite.remove m k) ≡ finite.len m - 1 =
      finite.len-remove nat_cmp_total m k
      ∙ ap (λ (o : Option V). cond (is_some o) (finite.len m - 1) (finite.len m)) at in
      omega (arith, long, less)

  -- what holds of each value holds of those that are left
  still : (P : V → Type 0) (m : FinMap nat_cmp V) (k : ℕ) → ((q : ℕ) → IfSome (finite.get m q) P) → (q : ℕ)
      → IfSome (finite.get (finite.remove m k) q) P
  still P m k each q = elim (cases_eq q k) [
    | inl same ↦
        subst (λ (o : Option V). IfSome o P) (sym (ap (finite.get (finite.remove m k)) same ∙ taken_out m k)) tt
    | inr ne ↦ subst (λ (o : Option V). IfSome o P) (sym (kept_beside m k q ne)) (each q)
  ]

module _ {V W : Type 0} (f : V → ℕ) (g : W → ℕ) (to : V → W) where
  abbrev Alike : FinMap nat_cmp V → Type 0
  Alike m = (q : ℕ) → IfSome (finite.get m q) (λ (v : V). f v ≡ g (to v))

  sums_of : (n : ℕ) (m : FinMap nat_cmp V) → finite.len m ≡ n → Alike m → total f m ≡ total g (map_values to m)
  sums_of zero m none each =
      ap (total f) (finite.empty_of_len m none) ∙ total_none f
      ∙ sym (ap (total g) (finite.empty_of_len (map_values to m) (len-map_values to m ∙ none)) ∙ total_none g)
  sums_of (suc n) m long each =
      let e = some_entry m n long in
      let here : f e.1 ≡ g (to e.1) = subst (λ (o : Option V). IfSome o (λ (v : V). f v ≡ g (to v))) e.2 (each e.0) in
      let others : total f (finite.remove m e.0) ≡ total g (finite.remove (map_values to m) e.0) =
      sums_of n (finite.remove m e.0) (one_less m e.0 n e.1 e.2 long)
      (still (λ (v : V). f v ≡ g (to v)) m e.0 each)
      ∙ ap (total g) (out-map_values to m e.0) in
      sym (total_less f m e.0 e.1 e.2)
      ∙ ap (λ (n : ℕ). n + f e.1) others
      ∙ ap (λ (n : ℕ). total g (finite.remove (map_values to m) e.0) + n) here
      ∙ total_less g (map_values to m) e.0 (to e.1) (get-map_values to m e.0 ∙ ap (option_map to) e.2)

  -- where a number of each value is that of what it is mapped to, the sums of both are equal
  pub sums_mapped : (m : FinMap nat_cmp V) → ((q : ℕ) → IfSome (finite.get m q) (λ (v : V). f v ≡ g (to v)))
      → total f m ≡ total g (map_values to m)
  sums_mapped m each = sums_of (finite.len m) m refl each
