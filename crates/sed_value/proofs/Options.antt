-- What options hold.
use Rattle.std.proofs.Common.{◌≡◌, Option, Some, None, refl}
use Rattle.std.specs.Prelude.{IsSomeAnd}

pub some_and : {A : Type 0} {P : A → Type 0} (o : Option A) → IsSomeAnd o P → (x : A) × (◌≡◌ {A = Option A} o (Some x)) × P x
some_and None h = absurd h
some_and (Some x) h = (x, refl, h)
