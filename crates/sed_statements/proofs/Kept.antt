-- What does not depend on an answer.
use Rattle.std.specs.Prelude.{Result, Ok, Err, IfOk}

pub whatever_comes : {A E : Type 0} (r : Result A E) (P : Type 0) → P → IfOk r (λ _. P)
whatever_comes (Ok x) P p = p
whatever_comes (Err e) P p = tt
