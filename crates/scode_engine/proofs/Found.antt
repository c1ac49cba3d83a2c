-- What is found where a root call runs a method.
use Rattle.std.proofs.Common.{Result, Ok, Err, refl}
use Rattle.sed_engine.specs.Stops.{Stop, and_then}
use Rattle.scode_engine.specs.Lookups.{IsFound}

-- of two things that are looked up one after the other the first is found
pub first_found : {A B : Type 0} (r : Result A Stop) (f : A → Result B Stop) → IsFound (and_then r f) → IsFound r
first_found (Ok v) f is = (v, refl)
first_found (Err stop) f is = absurd (let never = is.1 in cc)
