-- A place that a list has not.
use Rattle.std.proofs.Common.{◌≡◌, ℕ, ◌≤◌, List, length, Option, None, subst}
use Rattle.std.specs.Prelude.{slice_get}
use Rattle.std.proofs.lemmas.Option.{slice_get_past}

pub none_past : {X : Type 0} (xs ys : List X) (i j : ℕ) → xs ≡ ys → i ≡ j → length xs ≤ i →
    ◌≡◌ {A = Option X} (slice_get ys j) None
none_past {X = X} xs ys i j same at past =
    subst (λ (l : List X). ◌≡◌ {A = Option X} (slice_get l j) None) same
    (subst (λ (k : ℕ). ◌≡◌ {A = Option X} (slice_get xs k) None) at (slice_get_past xs i past))
