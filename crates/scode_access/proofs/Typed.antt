-- What ends typed, and what it goes through.
use Rattle.std.proofs.Common.{◌≡◌, Option, Some, None, Result, Ok, Err, refl}
use Rattle.sed_engine.specs.State.{State, End, after}
use Rattle.sed_engine.specs.Stops.{Stop, Traps, Untyped, there}
use Rattle.scode_vm.specs.Doings.{EndsTyped}

-- the first of two steps does
pub first_typed : {A B : Type 0} (r : Result A Stop) (s : State) (next : A → State → End B)
    → EndsTyped (after r s next).result → EndsTyped r
first_typed (Ok v) s next h = tt
first_typed (Err (Traps trap)) s next h = tt
first_typed (Err Untyped) s next h = h

-- what is asked for is there
pub is_there : {A : Type 0} (o : Option A) → EndsTyped (there o) → (v : A) × (o ≡ Some v)
is_there None h = absurd h
is_there (Some v) h = (v, refl)
