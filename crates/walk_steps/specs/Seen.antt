-- What the walker's values stand for.
use Rattle.std.specs.Prelude.{ℕ, List, map, Result, Ok, Err}
use Rattle.sed_typed.specs.declared.operators.Arithmetic.{Arithmetic}
use Rattle.sed_typed.specs.declared.operators.Arithmetic.TheVariants as arithmetic
use Rattle.sed_engine.specs.Stops as stops
use Rattle.sed_engine.specs.Values.{Val, Spot}
use Rattle.sed_engine.specs.Values as val
use Rattle.sed_cells.specs.Places.{Plan, place_of, classes_in}
use Rattle.walk_steps.specs.declared.word.Base.{Base}
use Rattle.walk_steps.specs.declared.word.Base.TheVariants.{Component, Statics}
use Rattle.walk_steps.specs.declared.word.Stop.{Stop}
use Rattle.walk_steps.specs.declared.word.Stop.TheVariants.{Trapped, Untyped}
use Rattle.walk_steps.specs.declared.word.Word.{Word}
use Rattle.walk_steps.specs.declared.word.Word.TheVariants.{Nothing, Truth, Int, Long, Null, At, Literal}

abbrev pub base_seen : Base → val.Base
base_seen Component = val.Component
base_seen Statics = val.Statics

-- the layout of the component, or of the statics, in a root call on a component of this class
abbrev pub top_of : Plan → ℕ → Base → ℕ
top_of plan class Component = class
top_of plan class Statics = classes_in plan

abbrev pub spot_seen : Plan → ℕ → Base → ℕ → Spot
spot_seen plan class base place = record { base = base_seen base; path = place_of plan (top_of plan class base) place }

-- a value in a root call on a component of this class
abbrev pub seen : Plan → ℕ → Word → Val
seen plan class Nothing = val.Nothing
seen plan class (Truth t) = val.Truth t
seen plan class (Int n) = val.Int n
seen plan class (Long n) = val.Long n
seen plan class Null = val.Null
seen plan class (At base place) = val.At (spot_seen plan class base place)
seen plan class (Literal n) = val.Literal n

abbrev pub stop_seen : Stop → stops.Stop
stop_seen (Trapped trap) = stops.Traps trap
stop_seen Untyped = stops.Untyped

-- how a step ends
abbrev pub end_seen : {A B : Type 0} → (A → B) → Result A Stop → Result B stops.Stop
end_seen f (Ok v) = Ok (f v)
end_seen f (Err stop) = Err (stop_seen stop)

-- a value that is seen as it is
abbrev pub as_it_is : {A : Type 0} → Result A Stop → Result A stops.Stop
as_it_is (Ok v) = Ok v
as_it_is (Err stop) = Err (stop_seen stop)

abbrev pub ends : Plan → ℕ → Result Word Stop → Result Val stops.Stop
ends plan class (Ok v) = Ok (seen plan class v)
ends plan class (Err stop) = Err (stop_seen stop)

-- an operator of which both operands have one width
abbrev pub IsStraight : Arithmetic → Type 0
IsStraight arithmetic.ShiftLeft = ⊥
IsStraight arithmetic.ShiftRight = ⊥
IsStraight op = Unit {0}

-- a place that is found
abbrev pub spots_seen : Plan → ℕ → Result (Base × ℕ) Stop → Result Spot stops.Stop
spots_seen plan class (Ok place) = Ok (spot_seen plan class place.0 place.1)
spots_seen plan class (Err stop) = Err (stop_seen stop)

-- a frame that a step leaves, where it does not stop
abbrev pub framed : Plan → ℕ → Result (Unit {0}) Stop → List Word → Result (List Val) stops.Stop
framed plan class (Ok u) frame = Ok (map (seen plan class) frame)
framed plan class (Err stop) frame = Err (stop_seen stop)
