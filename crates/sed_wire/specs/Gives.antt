-- What a step of the reader answers, by what a form reads: what is found, with the bytes behind it left. Or a fault
-- where reading gets stuck, with the bytes left from there on. Want of memory is free.
use Rattle.std.specs.Prelude.{◌≡◌, ℕ, List, Result, Ok, Err}
use Rattle.sed_wire.specs.FormReading.{Reading, Found, Stuck}
use Rattle.sed_value.specs.declared.halt.Halt.{Halt}
use Rattle.sed_value.specs.declared.halt.Halt.TheVariants.{Fault, Memory}

abbrev pub Gives : {X : Type 0} → Result X Halt → List ℕ → Reading X → Type 0
Gives (Ok x) rest reading = reading ≡ Found x rest
Gives (Err Fault) rest reading = reading ≡ Stuck rest
Gives (Err Memory) rest reading = Unit {0}
