-- Finite maps: what a change leaves.
use Rattle.std.proofs.Common.{◌≡◌, ℕ, ◌+◌, cond, sym, ◌∙◌, ap}
use Rattle.std.specs.Prelude.{Some, None, is_some}
use Rattle.std.specs.FinMap as finite
use Rattle.std.specs.FinMap.{FinMap}
use Rattle.std.specs.Ordering.{nat_cmp}
use Rattle.std.specs.Cmp.{nat_cmp_total}
pub use Rattle.std.proofs.lemmas.Option.{same_Some as some_is}
pub use Rattle.sed_value.proofs.Orders.{tied_apart}
pub use Rattle.node_table.proofs.MapLemmas.{get_put, get_beside, put_same, put_twice}
pub use Rattle.sed_value.proofs.Maps.{get-map_values, len-map_values, put_back, taken_out, kept_beside}

module _ {V : Type 0} where
  pub len_over : (m : FinMap nat_cmp V) (k : ℕ) (x y : V) → finite.get m k ≡ Some x → finite.len (finite.insert m k y) ≡ finite.len m
  len_over m k x y e = finite.len-insert nat_cmp_total m k y ∙ ap (λ r. cond (is_some r) (finite.len m) (finite.len m + 1)) e

  pub len_more : (m : FinMap nat_cmp V) (k : ℕ) (y : V) → finite.get m k ≡ None → finite.len (finite.insert m k y) ≡ finite.len m + 1
  len_more m k y e = finite.len-insert nat_cmp_total m k y ∙ ap (λ r. cond (is_some r) (finite.len m) (finite.len m + 1)) e

module _ {V : Type 0} where
  pub put_whole : (m : FinMap nat_cmp V) (k : ℕ) (x : V) → finite.get m k ≡ Some x → finite.insert (finite.remove m k) k x ≡ m
  put_whole m k x some = put_back m k x ∙ put_same m k x some

  pub len_less : (m : FinMap nat_cmp V) (k : ℕ) (x : V) → finite.get m k ≡ Some x → finite.len (finite.remove m k) + 1 ≡ finite.len m
  len_less m k x some = sym (len_more (finite.remove m k) k x (taken_out m k)) ∙ ap finite.len (put_whole m k x some)
