-- What a root call does.
use Rattle.std.specs.Prelude.{ℕ, zero, suc, ℤ, List, [], codes, if◌then◌else◌, is_some, slice_get, slice_set, Option}
use Rattle.std.specs.Prelude.{Some, None, Result, Ok, Err}
use Rattle.sed_value.specs.declared.value.Value.{Value}
use Rattle.sed_value.specs.declared.value.Value.TheVariants as kept
use Rattle.sed_typed.specs.declared.kind.Kind.{Kind}
use Rattle.sed_typed.specs.declared.statement.Stmt.{Stmt}
use Rattle.sed_typed.specs.declared.program.Method.{Method}
use Rattle.sed_typed.specs.declared.program.Program.{Program}
use Rattle.sed_typed.specs.Contents.{Contents}
use Rattle.sed_typed.specs.Classes.{find, slot_name}
use Rattle.sed_typed.specs.Schemas.{type_at}
use Rattle.sed_typed.specs.SysTypes.{component_type}
use Rattle.sed_engine.specs.declared.trap.Trap.TheVariants.{TooDeep}
use Rattle.sed_engine.specs.declared.call.Root.{Root as Root-type}
use Rattle.sed_engine.specs.declared.call.Root.TheVariants.{Execute, Action, Callback}
use Rattle.sed_engine.specs.declared.call.Callback.{Callback as Callback-type}
use Rattle.sed_engine.specs.declared.call.Callback.TheVariants as callback
use Rattle.sed_engine.specs.declared.call.CallEnd.{CallEnd}
use Rattle.sed_engine.specs.declared.call.CallEnd.TheVariants as end
use Rattle.sed_engine.specs.Stops.{Stop, Traps, Untyped, stop_number, there, map_ok, and_then}
use Rattle.sed_engine.specs.Values.{Val, Nothing, At, Component, read_as, zero_of}
use Rattle.sed_engine.specs.State.{Shared, End}
use Rattle.sed_engine.specs.Expressions.{Setting, Called, Calls, frame_of}
use Rattle.sed_engine.specs.Statements.{Flow, Next, Break, Continue, Return, exec}

-- what a method answers that ended so: 0, false or null where it did not return
abbrev pub answer_of : Kind → Flow → Result Val Stop
answer_of kind Next = Ok (zero_of kind)
answer_of kind Break = Err Untyped
answer_of kind Continue = Err Untyped
answer_of kind (Return v) = Ok v

abbrev pub answered : Kind → Result Flow Stop → Result Val Stop
answered kind r = and_then r (λ flow. answer_of kind flow)

abbrev pub called : Kind → End Flow → Called
called kind e = record { result = answered kind e.result; shared = e.state.shared }

abbrev pub untyped : List Val → Shared → Called
untyped frame shared = record { result = Err Untyped; shared = shared }

-- a body in its frame
abbrev pub run_body : Setting → Kind → Option Stmt → List Val → Shared → Called
run_body w kind None frame shared = untyped frame shared
run_body w kind (Some body) frame shared = called kind (exec w body (record { shared = shared; locals = frame }))

abbrev pub run_method : Setting → Option Method → List Val → Shared → Called
run_method w None frame shared = untyped frame shared
run_method w (Some m) frame shared = run_body w m.result m.body frame shared

-- calls with so many frames left
unfoldable pub calls_with : Program → ℕ → ℕ → Calls
calls_with program class zero method frame shared = record { result = Err (Traps TooDeep); shared = shared }
calls_with program class (suc frames) method frame shared =
    run_method (record { program = program; class = class; calls = calls_with program class frames })
    (slice_get program.methods method) frame shared

-- 32 frames at most are live, the root call's the first
abbrev pub most_frames : ℕ
most_frames = 32

abbrev pub callback_name : Callback-type → List ℕ
callback_name callback.Start = codes "start"
callback_name callback.Stop = codes "stop"
callback_name callback.Changed = codes "changed"

-- the nearest method of a name, which a typed program has
abbrev pub method_at : Program → ℕ → List ℕ → Result (Option ℕ) Stop
method_at program class name = map_ok (λ m. Some m) (there (find program class name))

-- the method of a callback, where `sys::Component` has one of that name, as that of a typed program does; else none,
-- and nothing is done
abbrev pub callback_method : Program → ℕ → List ℕ → Result (Option ℕ) Stop
callback_method program class name =
    and_then (there (type_at program.schema.classes 0 component_type))
    (λ (component : ℕ). if is_some (find program component name) then method_at program class name else Ok None)

-- what a root call runs: the nearest method at or above the class
abbrev pub root_method : Program → ℕ → Root-type → Result (Option ℕ) Stop
root_method program class Execute = method_at program class (codes "execute")
root_method program class (Action slot) = method_at program class (slot_name program.schema.classes class slot.0)
root_method program class (Callback c) = callback_method program class (callback_name c)

-- the contents and statics that a root call leaves, and how it ends
pub record RootEnd : Type 0 where
  pub contents : Contents
  pub statics : Contents
  pub end : CallEnd

abbrev pub end_of : Result Val Stop → ℕ → CallEnd
end_of (Ok v) left = end.Done left
end_of (Err stop) left = end.Trap (stop_number stop)

abbrev pub root_end : Called → RootEnd
root_end c = record { contents = c.shared.contents; statics = c.shared.statics; end = end_of c.result c.shared.turns }

-- the argument of an action or a callback; where there is none the local is not begun
abbrev pub argument_of : Value → Result Val Stop
argument_of kept.Nothing = Ok Nothing
argument_of v = read_as v

-- the frame of a root call: the component, and the argument
abbrev pub root_frame : Val → List Val
root_frame argument = slice_set (frame_of (At (record { base = Component; path = [] }))) 1 argument

-- a method with an argument; where there is no method, nothing is done
abbrev pub run_root : Calls → Option ℕ → Val → Shared → Called
run_root calls None argument shared = record { result = Ok Nothing; shared = shared }
run_root calls (Some method) argument shared = calls method (root_frame argument) shared

abbrev pub start_root : Calls → Result (Option ℕ) Stop → Result Val Stop → Shared → Called
start_root calls (Ok method) (Ok argument) shared = run_root calls method argument shared
start_root calls (Ok method) (Err stop) shared = record { result = Err stop; shared = shared }
start_root calls (Err stop) argument shared = record { result = Err stop; shared = shared }

-- the root call on a component of this class, with these contents and statics, so many turns, at this moment
abbrev pub root : Program → ℕ → Contents → Contents → Root-type → Value → ℕ → ℤ → RootEnd
root program class contents statics which argument turns moment =
    root_end (start_root (calls_with program class most_frames) (root_method program class which) (argument_of argument)
    (record { contents = contents; statics = statics; turns = turns; moment = moment }))
