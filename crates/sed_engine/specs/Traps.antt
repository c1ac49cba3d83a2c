-- The numbers of traps.
use Rattle.std.specs.Prelude.{ℕ}
use Rattle.sed_engine.specs.declared.trap.Trap.{Trap}
use Rattle.sed_engine.specs.declared.trap.Trap.TheVariants.{ZeroDivisor, NullReference, OutOfRange, TurnsSpent, TooDeep}

abbrev pub number_of : Trap → ℕ
number_of ZeroDivisor = 1
number_of NullReference = 2
number_of OutOfRange = 3
number_of TurnsSpent = 4
number_of TooDeep = 5
