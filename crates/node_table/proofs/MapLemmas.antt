-- Finite maps: what is there after something is put.
use Rattle.std.proofs.Common.{◌≡◌, ℕ, inl, inr, sym, ◌∙◌, ap}
use Rattle.std.specs.FinMap as finite
use Rattle.std.specs.FinMap.{FinMap}
use Rattle.std.specs.Ordering.{nat_cmp}
use Rattle.std.specs.Cmp.{nat_cmp_total}
use Rattle.std.proofs.lemmas.Bool.{cases_eq}
pub use Rattle.sed_value.proofs.Maps.{get_put, get_beside, put_same}

module _ {V : Type 0} where
  -- what is put twice stands as it was put last
  pub put_twice : (m : FinMap nat_cmp V) (k : ℕ) (x y : V) → finite.insert (finite.insert m k x) k y ≡ finite.insert m k y
  put_twice m k x y = finite.same_map nat_cmp_total finite.nat_cmp-IsAntisymmetric _ _ (λ q. elim (cases_eq q k) [
    | inl is ↦
        ap (finite.get (finite.insert (finite.insert m k x) k y)) is ∙ get_put (finite.insert m k x) k y
        ∙ sym (ap (finite.get (finite.insert m k y)) is ∙ get_put m k y)
    | inr ne ↦ get_beside (finite.insert m k x) k y q ne ∙ get_beside m k x q ne ∙ sym (get_beside m k y q ne)
  ])
