-- What a store stands for.
use Rattle.std.specs.Prelude.{ℕ, ℤ, List, map, if◌then◌else◌, Result, Ok, Err}
use Rattle.sed_value.specs.declared.value.Value.{Value}
use Rattle.sed_value.specs.declared.value.Value.TheVariants as kept
use Rattle.sed_value.specs.declared.slot_type.Primitive.{Primitive}
use Rattle.sed_typed.specs.Contents.{Contents, Path, value_at, with_value}
use Rattle.sed_engine.specs.Stops.{Stop, Untyped, there, and_then}
use Rattle.sed_engine.specs.Values.{Val, stored_as, is_alike}
use Rattle.sed_engine.specs.State.{Shared, State, End}
use Rattle.sed_cells.specs.Places.{Plan, contents_of, classes_in}
use Rattle.walk_steps.specs.declared.word.Word.{Word}
use Rattle.walk_steps.specs.Seen.{seen}

-- the values in the cells of the component and of the statics, the turns left, and the moment
pub record Stored : Type 0 where
  pub own : List Value
  pub statics : List Value
  pub turns : ℕ
  pub moment : ℤ

abbrev pub shared_of : Plan → ℕ → Stored → Shared
shared_of plan class s =
    record {
      contents = contents_of plan class s.own;
      statics = contents_of plan (classes_in plan) s.statics;
      turns = s.turns;
      moment = s.moment;
    }

abbrev pub state_of : Plan → ℕ → Stored → List Word → State
state_of plan class s locals = record { shared = shared_of plan class s; locals = map (seen plan class) locals }

abbrev pub ended : {A : Type 0} → Plan → ℕ → Result A Stop → Stored → List Word → End A
ended plan class r s locals = record { result = r; state = state_of plan class s locals }

-- the state that a store and values of locals are
abbrev pub with_locals : Plan → ℕ → Stored → List Val → State
with_locals plan class s locals = record { shared = shared_of plan class s; locals = locals }

-- a step that leaves the locals
abbrev pub stepped : {A : Type 0} → Plan → ℕ → Result A Stop → Stored → List Val → End A
stepped plan class r s locals = record { result = r; state = with_locals plan class s locals }

-- what is kept of a value that is stored in a place of a primitive type: a value stands there, and it is of its type
abbrev pub kept_at : Contents → Path → Primitive → Val → Result Value Stop
kept_at contents path p v =
    and_then (stored_as p v) (λ new. and_then (there (value_at contents path)) (λ old. if is_alike old new
    then Ok new else Err Untyped))

-- what is kept of bytes that are put in the place of others
abbrev pub bytes_kept_at : Contents → Path → List ℕ → Result Value Stop
bytes_kept_at contents path bytes =
    and_then (there (value_at contents path)) (λ old. if is_alike old (kept.Buf bytes)
    then Ok (kept.Buf bytes) else Err Untyped)

-- the contents then
abbrev pub contents_after : Contents → Path → Result Value Stop → Contents
contents_after contents path (Ok v) = with_value contents path v
contents_after contents path (Err stop) = contents
