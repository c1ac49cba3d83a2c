-- Numbers in the order by which maps keep them, and maps by numbers.
use Rattle.std.proofs.Common.{ℕ, ◌≡◌, ◌≢◌, ◌<◌, ◌∙◌, true, false, refl, arith}
use Rattle.std.specs.Prelude.{T, Some}
use Rattle.std.specs.FinMap as map
use Rattle.std.specs.Ordering.{eq_by_cmp, is_lt, nat_cmp}
use Rattle.std.specs.Cmp.{nat_cmp_total}
use Rattle.std.proofs.lemmas.Bool.Decides.{nat_tests}

pub tied_same : (a : ℕ) → eq_by_cmp nat_cmp a a ≡ true
tied_same a = grind (arith, nat_tests)

pub tied_apart : (a b : ℕ) → a ≢ b → eq_by_cmp nat_cmp a b ≡ false
tied_apart a b ne = grind (arith, nat_tests)

pub below_is : (a b : ℕ) → T (is_lt (nat_cmp a b)) → a < b
below_is a b is = grind (arith, nat_tests)

pub put_at : {X : Type 0} (all : map.FinMap nat_cmp X) (k : ℕ) (x : X) → map.get (map.insert all k x) k ≡ Some x
put_at all k x = map.get-insert nat_cmp_total all k x k ∙ rw (tied_same k) refl

pub put_beside : {X : Type 0} (all : map.FinMap nat_cmp X) (k : ℕ) (x : X) (q : ℕ) → q ≢ k → map.get (map.insert all k x) q ≡ map.get all q
put_beside all k x q ne = map.get-insert nat_cmp_total all k x q ∙ rw (tied_apart q k ne) refl
