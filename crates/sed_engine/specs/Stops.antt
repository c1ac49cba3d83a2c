-- Why an evaluation stops.
use Rattle.std.specs.Prelude.{ℕ, Option, Result, Ok, Err}
use Rattle.std.specs.Option.{ok_or}
use Rattle.sed_engine.specs.declared.trap.Trap.{Trap}
use Rattle.sed_engine.specs.Traps.{number_of}

-- by a trap, or because it came to what no typed program comes to
pub data Stop : Type 0 where
  Traps : Trap → Stop
  Untyped : Stop

-- the number that tells a stop: 0, which no trap has, for what is not typed
abbrev pub stop_number : Stop → ℕ
stop_number (Traps trap) = number_of trap
stop_number Untyped = 0

-- what is there; a typed program asks for nothing else
abbrev pub there : {A : Type 0} → Option A → Result A Stop
there o = ok_or o Untyped

abbrev pub map_ok : {A B : Type 0} → (A → B) → Result A Stop → Result B Stop
map_ok f (Ok v) = Ok (f v)
map_ok f (Err stop) = Err stop

abbrev pub and_then : {A B : Type 0} → Result A Stop → (A → Result B Stop) → Result B Stop
and_then (Ok v) next = next v
and_then (Err stop) next = Err stop
