-- The single reads and writes of the state.
use Rattle.std.specs.Prelude.{ℕ, ◌-◌, ◌==◌, if◌then◌else◌, List, [], ◌∷◌, ◌++◌, Result, Ok, Err, slice_get, slice_set}
use Rattle.sed_value.specs.declared.value.Value.{Value}
use Rattle.sed_value.specs.declared.value.Value.TheVariants as kept
use Rattle.sed_value.specs.declared.slot_type.Primitive.{Primitive}
use Rattle.sed_typed.specs.declared.kind.Kind.{Kind}
use Rattle.sed_typed.specs.Contents.{Contents, value_at, with_value}
use Rattle.sed_engine.specs.declared.trap.Trap.TheVariants.{TurnsSpent}
use Rattle.sed_engine.specs.Stops.{Stop, Traps, Untyped, there, map_ok}
use Rattle.sed_engine.specs.Values.{Val, Nothing, Long, Base, Component, Statics, Spot, is_met, read_as, stored_as}
use Rattle.sed_engine.specs.Values.{bytes_of, is_alike, begun, receiver}
use Rattle.sed_engine.specs.State.{Shared, State, End, gives, answers, then_do}

-- the place of a field or an element
abbrev pub inside : Spot → ℕ → Spot
inside spot i = record { base = spot.base; path = spot.path ++ i ∷ [] }

abbrev pub contents_of : Base → Shared → Contents
contents_of Component s = s.contents
contents_of Statics s = s.statics

-- where a condition is met the one, else the other
abbrev pub choose : {A : Type 0} → Val → (State → End A) → (State → End A) → State → End A
choose v met unmet s = then_do (answers (is_met v) s) (λ b s1. (if b then met else unmet) s1)

-- ---- what is kept at a place

abbrev pub load : Spot → State → End Value
load spot s = answers (there (value_at (contents_of spot.base s.shared) spot.path)) s

abbrev pub written_at : Base → List ℕ → Value → Shared → Shared
written_at Component path v s =
    record { contents = with_value s.contents path v; statics = s.statics; turns = s.turns; moment = s.moment }
written_at Statics path v s =
    record { contents = s.contents; statics = with_value s.statics path v; turns = s.turns; moment = s.moment }

abbrev pub replace : Spot → Value → State → End (Unit {0})
replace spot new s = gives tt (record { shared = written_at spot.base spot.path new s.shared; locals = s.locals })

-- a value is stored only where one of its type stood
abbrev pub store_over : Spot → Value → Value → State → End (Unit {0})
store_over spot new old s = (if is_alike old new then replace spot new else answers (Err Untyped)) s

abbrev pub store : Spot → Value → State → End (Unit {0})
store spot new s = then_do (load spot s) (λ old s1. store_over spot new old s1)

abbrev pub read_spot : Spot → State → End Val
read_spot spot s = then_do (load spot s) (λ v s1. answers (read_as v) s1)

-- the value of an assignment is the stored value as a read gives it
abbrev pub write_spot : Primitive → Spot → Val → State → End Val
write_spot p spot v s =
    then_do (answers (stored_as p v) s) (λ new s1. then_do (store spot new s1) (λ _ s2. answers (read_as new) s2))

-- the bytes of a Str or a Buf
abbrev pub read_bytes : Spot → State → End (List ℕ)
read_bytes spot s = then_do (load spot s) (λ v s1. answers (bytes_of v) s1)

abbrev pub write_bytes : Spot → List ℕ → State → End Val
write_bytes spot bytes s = then_do (store spot (kept.Buf bytes) s) (λ _ s1. gives Nothing s1)

-- ---- locals

-- a frame with a value in one of its locals
abbrev pub with_local : List Val → ℕ → Val → Result (List Val) Stop
with_local frame i v = map_ok (λ _. slice_set frame i v) (there (slice_get frame i))

abbrev pub local_at : ℕ → State → End Val
local_at i s = answers (there (slice_get s.locals i)) s

abbrev pub read_local : Kind → ℕ → State → End Val
read_local kind i s = then_do (local_at i s) (λ v s1. gives (begun kind v) s1)

-- the receiver stands in local 0
abbrev pub read_this : State → End Val
read_this s = then_do (local_at 0 s) (λ v s1. answers (receiver v) s1)

abbrev pub write_local : ℕ → Val → State → End Val
write_local i v s =
    then_do (answers (with_local s.locals i v) s) (λ locals s1.
    gives v (record { shared = s1.shared; locals = locals }))

-- ---- moment and turns

-- the moment of the last tick
abbrev pub read_moment : State → End Val
read_moment s = gives (Long s.shared.moment) s

abbrev pub turn_of : ℕ → Result (Unit {0}) Stop
turn_of turns = if turns == 0 then Err (Traps TurnsSpent) else Ok tt

abbrev pub turn_taken : Shared → Shared
turn_taken s = record { contents = s.contents; statics = s.statics; turns = s.turns - 1; moment = s.moment }

-- takes a turn; where none is left it traps
abbrev pub take_turn : State → End (Unit {0})
take_turn s = record {
  result = turn_of s.shared.turns;
  state = record { shared = turn_taken s.shared; locals = s.locals };
}
