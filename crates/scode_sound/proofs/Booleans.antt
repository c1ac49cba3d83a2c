-- Tests that pass or fail, taken apart.
use Rattle.std.proofs.Common.{◌≡◌, ◌||◌, not, ℕ, Bool, true, false, Option, Some, None, refl, sym}
use Rattle.std.specs.Prelude.{is_some}
use Rattle.scode_whole.proofs.Truths.{no_truth}

pub not_not : (b : Bool) → not b ≡ false → b ≡ true
not_not true h = refl
not_not false h = no_truth (sym h)

pub first_false : (a b : Bool) → (a || b) ≡ false → a ≡ false
first_false true b h = no_truth (sym h)
first_false false b h = refl

pub second_false : (a b : Bool) → (a || b) ≡ false → b ≡ false
second_false true b h = no_truth (sym h)
second_false false b h = h

pub or_right : (a b : Bool) → b ≡ true → (a || b) ≡ true
or_right true b h = refl
or_right false b h = h

pub not_first : (a b : Bool) → a ≡ false → (a || b) ≡ true → b ≡ true
not_first true b e h = no_truth (sym e)
not_first false b e h = h

-- of two of which the first, where it holds, asks for the second
pub second : (a b : Bool) → a ≡ true → (not a || b) ≡ true → b ≡ true
second true b e h = h
second false b e h = no_truth e

pub not_none : (o : Option ℕ) → is_some o ≡ true → (n : ℕ) × (o ≡ Some n)
not_none None h = no_truth h
not_none (Some n) h = (n, refl)
