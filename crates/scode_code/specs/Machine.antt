-- The machine: its frames, and where an instruction leads.
use Rattle.std.specs.Prelude.{ℕ, List, [], ◌∷◌, nat_lt, if◌then◌else◌, length, Result, Ok, Err}
use Rattle.sed_engine.specs.declared.trap.Trap.TheVariants.{TooDeep}
use Rattle.sed_engine.specs.Expressions.{Called}
use Rattle.sed_engine.specs.Root.{most_frames}
use Rattle.sed_engine.specs.State.{Shared, State}
use Rattle.sed_engine.specs.Stops.{Stop, Traps}
use Rattle.sed_engine.specs.Values.{Val, Nothing}

-- a call that is running: its method, the place of its next instruction, its locals, and its stack with the top first
pub record Frame : Type 0 where
  pub method : ℕ
  pub place : ℕ
  pub locals : List Val
  pub stack : List Val

-- the frame that is running, those below it with the nearest first, and what they share
pub record Machine : Type 0 where
  pub top : Frame
  pub below : List Frame
  pub shared : Shared

-- a machine at work, or over. It is stuck where it is over by what no typed program comes to
pub data Point : Type 0 where
  At : Machine → Point
  Over : Called → Point

-- what an instruction does beyond the state: it goes on to the next one or to a place, with this stack; into a method,
-- with its locals and the stack that is left; or out of its own, with a value or with none
pub data Move : Type 0 where
  Onward : List Val → Move
  Goto : ℕ → List Val → Move
  Enter : ℕ → List Val → List Val → Move
  Leave : Val → Move

abbrev pub pushed : Val → List Val → List Val
pushed Nothing stack = stack
pushed v stack = v ∷ stack

abbrev pub frame_at : Frame → ℕ → List Val → List Val → Frame
frame_at f place locals stack = record { method = f.method; place = place; locals = locals; stack = stack }

-- a new frame above these
abbrev pub enters : ℕ → List Val → List Frame → Shared → Point
enters method locals frames shared =
    if nat_lt (length frames) most_frames
    then At (record {
      top = record { method = method; place = 0; locals = locals; stack = [] };
      below = frames;
      shared = shared;
    })
    else Over (record { result = Err (Traps TooDeep); shared = shared })

-- a value to the frame below, or to the caller of the root
abbrev pub returned : Val → List Frame → Shared → Point
returned v [] shared = Over (record { result = Ok v; shared = shared })
returned v (f ∷ fs) shared =
    At (record { top = frame_at f f.place f.locals (pushed v f.stack); below = fs; shared = shared })

-- where a move leads from a frame whose next instruction stands at this place
abbrev pub moves : Frame → List Frame → ℕ → Result Move Stop → State → Point
moves f below next (Ok (Onward stack)) s =
    At (record { top = frame_at f next s.locals stack; below = below; shared = s.shared })
moves f below next (Ok (Goto place stack)) s =
    At (record { top = frame_at f place s.locals stack; below = below; shared = s.shared })
moves f below next (Ok (Enter method locals stack)) s =
    enters method locals (frame_at f next s.locals stack ∷ below) s.shared
moves f below next (Ok (Leave v)) s = returned v below s.shared
moves f below next (Err stop) s = Over (record { result = Err stop; shared = s.shared })
