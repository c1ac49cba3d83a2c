-- What a root call of an image does.
use Rattle.std.specs.Prelude.{ℕ, ◌+◌, ◌*◌, ◌==◌, ℤ, if◌then◌else◌, List, [], ◌∷◌, map, length, slice_get, Option, Some}
use Rattle.std.specs.Prelude.{None, Result, Ok, Err}
use Rattle.std.specs.Option.{option_and_then}
use Rattle.sed_value.specs.declared.value.Value.{Value}
use Rattle.sed_typed.specs.Contents.{Contents}
use Rattle.sed_typed.specs.Schemas.{type_at}
use Rattle.sed_typed.specs.SysTypes.{component_type}
use Rattle.sed_engine.specs.declared.call.Callback.{Callback as Callback-type}
use Rattle.sed_engine.specs.declared.call.Callback.TheVariants as callback
use Rattle.sed_engine.specs.declared.call.Root.{Root as Root-type}
use Rattle.sed_engine.specs.declared.call.Root.TheVariants.{Execute, Action, Callback}
use Rattle.sed_engine.specs.Expressions.{Called}
use Rattle.sed_engine.specs.Root.{RootEnd, root_end, argument_of}
use Rattle.sed_engine.specs.State.{Shared}
use Rattle.sed_engine.specs.Stops.{Stop, Untyped, there, map_ok, and_then}
use Rattle.sed_engine.specs.Values.{Val, Nothing, At, Component}
use Rattle.scode_image.specs.declared.image.Image.{Image}
use Rattle.scode_image.specs.declared.image.ImageMethod.{ImageMethod}
use Rattle.scode_code.specs.Tables.{schema_of}
use Rattle.scode_code.specs.Fields.{Setting}
use Rattle.scode_code.specs.Machine.{Point, At as AtWork, Over, enters, pushed}
use Rattle.scode_code.specs.Calls.{locals_of, table_method}
use Rattle.scode_code.specs.Steps.{steps, longest_of}

-- ---- which method is run

-- how many places the table of `Component` has
abbrev pub component_places : Image → Result ℕ Stop
component_places image =
    there (option_and_then (λ class. option_and_then (λ c. Some (length c.table)) (slice_get image.classes class))
    (type_at (schema_of image).classes 0 component_type))

-- the places of the callbacks, behind that of `execute`
abbrev pub callback_place : Callback-type → ℕ
callback_place callback.Start = 1
callback_place callback.Stop = 2
callback_place callback.Changed = 3

abbrev pub method_at : Image → ℕ → ℕ → Result (Option ℕ) Stop
method_at image class place = map_ok (λ m. Some m) (there (table_method image class place))

-- the table place of an action
abbrev pub action_place : Image → ℕ → ℕ → Option ℕ
action_place image class number = option_and_then (λ c. option_and_then (λ s. Some s.place) (slice_get c.slots number))
    (slice_get image.classes class)

-- what a root call runs; where `Component` has no places for callbacks a callback runs nothing
abbrev pub root_method : Image → ℕ → Root-type → Result (Option ℕ) Stop
root_method image class Execute = method_at image class 0
root_method image class (Action slot) =
    and_then (there (action_place image class slot.0)) (λ place. method_at image class place)
root_method image class (Callback c) =
    and_then (component_places image)
    (λ count. if count == 4 then method_at image class (callback_place c) else Ok None)

-- ---- the call

-- the component, and the argument if there is one
abbrev pub root_arguments : Val → List Val
root_arguments argument = At (record { base = Component; path = [] }) ∷ pushed argument []

abbrev pub begins : Option ImageMethod → ℕ → Val → Shared → Point
begins None number argument shared = Over (record { result = Err Untyped; shared = shared })
begins (Some m) number argument shared = enters number (locals_of m (root_arguments argument)) [] shared

-- How it ended. What is not over after so many steps is as if it were stuck: both are part of what a root call is
-- defined to be. A call of verified code that may be asked is over by then: `verified_calls_are_over` of scode_sound.
abbrev pub ended : Point → Called
ended (Over c) = c
ended (AtWork m) = record { result = Err Untyped; shared = m.shared }

-- so many steps are made: the instructions of the longest method for each turn, and for the time before the first
abbrev pub most_steps : Image → ℕ → ℕ
most_steps image turns = (1 + turns) * longest_of (map (λ m. m.code) image.methods)

abbrev pub run_method : Setting → Option ℕ → Val → Shared → Called
run_method w None argument shared = record { result = Ok Nothing; shared = shared }
run_method w (Some number) argument shared =
    ended (steps w (most_steps w.image shared.turns) (begins (slice_get w.image.methods number) number argument shared))

abbrev pub start_root : Setting → Result (Option ℕ) Stop → Result Val Stop → Shared → Called
start_root w (Ok method) (Ok argument) shared = run_method w method argument shared
start_root w (Ok method) (Err stop) shared = record { result = Err stop; shared = shared }
start_root w (Err stop) argument shared = record { result = Err stop; shared = shared }

-- the root call on a component of this class, with these contents and statics, so many turns, at this moment
abbrev pub root : Image → ℕ → Contents → Contents → Root-type → Value → ℕ → ℤ → RootEnd
root image class contents statics which argument turns moment =
    root_end (start_root (record { image = image; class = class }) (root_method image class which)
    (argument_of argument)
    (record { contents = contents; statics = statics; turns = turns; moment = moment }))
