-- Root calls on the components of an application.
use Rattle.std.specs.Prelude.{ℕ, ℤ, pos, ◌==◌, ◌+◌, if◌then◌else◌, List}
use Rattle.std.specs.Option.{option_map_or}
use Rattle.std.specs.List.{fold}
use Rattle.std.specs.FinMap as map
use Rattle.sed_value.specs.declared.value.Value.{Value}
use Rattle.sed_value.specs.declared.value.Value.TheVariants.{Int, Nothing}
use Rattle.sed_engine.specs.declared.call.CallEnd.{CallEnd}
use Rattle.sed_engine.specs.declared.call.CallEnd.TheVariants.{Done, Trap}
use Rattle.sed_engine.specs.declared.call.Root.{Root}
use Rattle.sed_engine.specs.declared.call.Root.TheVariants.{Execute, Callback}
use Rattle.sed_engine.specs.declared.call.Callback.{Callback as Callback-type}
use Rattle.sed_engine.specs.declared.call.Callback.TheVariants.{Start, Stop, Changed}
use Rattle.sed_engine.specs.Code.{Meaning, root_of}
use Rattle.sed_engine.specs.Root.{RootEnd}
use Rattle.comp_tree.specs.Application.{Component, Components, object_of}

-- the components that a root call leaves, and how it ended
pub record Ran : Type 0 where
  pub left : Components
  pub end : CallEnd

-- the fault that a root call leaves a component that had none
abbrev pub fault_by : CallEnd → ℕ
fault_by (Done left) = 0
fault_by (Trap number) = number

abbrev pub with_end : Component → RootEnd → Component
with_end c e = record {
  class = c.class;
  name = c.name;
  parent = c.parent;
  children = c.children;
  contents = e.contents;
  fault = fault_by e.end;
}

abbrev pub ended : Components → ℕ → Component → RootEnd → Ran
ended a id c e = record {
  left = record { by_id = map.insert a.by_id id (with_end c e); statics = e.statics; limit = a.limit };
  end = e.end;
}

-- nothing is run, so all turns are left
abbrev pub not_run : Components → ℕ → Ran
not_run a turns = record { left = a; end = Done turns }

-- a root call on a component with so many turns at a moment: a trap becomes its fault, and what was written before it
-- stands; while its fault is not 0 nothing is run
abbrev pub run_at : Meaning → Components → ℕ → Root → Value → ℕ → ℤ → Ran
run_at m a id which argument turns moment =
    option_map_or
    (λ c. if c.fault == 0 then ended a id c (root_of m (object_of c) a.statics which argument turns moment)
    else not_run a turns)
    (map.get a.by_id id)
    (not_run a turns)

abbrev pub execute_at : Meaning → Components → ℕ → ℕ → ℤ → Ran
execute_at m a id turns moment = run_at m a id Execute Nothing turns moment

-- `changed` has the number of the slot as its argument, the others have none
abbrev pub callback_argument : Callback-type → ℕ → Value
callback_argument Start slot = Nothing
callback_argument Stop slot = Nothing
callback_argument Changed slot = Int (pos slot)

-- the call of a callback
abbrev pub Call : Meaning → Components → ℕ → Callback-type → ℕ → ℕ → ℤ → Ran
Call m a id c slot turns moment = run_at m a id (Callback c) (callback_argument c slot) turns moment

-- ---- with traps counted

-- the components that several calls leave, and how many of them trapped
pub record Counted : Type 0 where
  pub left : Components
  pub traps : ℕ

abbrev pub traps_of : CallEnd → ℕ
traps_of (Done left) = 0
traps_of (Trap number) = 1

-- one call more
abbrev pub then_run : Counted → (Components → Ran) → Counted
then_run s call = record { left = (call s.left).left; traps = s.traps + traps_of (call s.left).end }

-- the same callback of several components, one after another
abbrev pub call_each : Meaning → Callback-type → ℕ → ℤ → Components → List ℕ → Counted
call_each m c turns moment a ids =
    fold (λ s id. then_run s (λ a. Call m a id c 0 turns moment)) (record { left = a; traps = 0 }) ids
