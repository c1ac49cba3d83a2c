-- What one instruction does to frames of cells, and when it may be done.
use Rattle.std.specs.Prelude.{ℕ, ℤ, ◌≡◌, ◌+◌, ◌≤◌, List, length, slice_get, Some, Result, Ok, Err, All}
use Rattle.sed_typed.specs.declared.operators.Arithmetic.{Arithmetic}
use Rattle.sed_typed.specs.declared.operators.Arithmetic.TheVariants as arithmetic
use Rattle.sed_typed.specs.Contents.{Contents}
use Rattle.sed_engine.specs.declared.call.Place.{Place}
use Rattle.sed_engine.specs.declared.trap.Trap.{Trap}
use Rattle.sed_engine.specs.State.{Shared, State, End}
use Rattle.sed_engine.specs.Stops.{Stop, Traps, Untyped}
use Rattle.sed_engine.specs.Values.{Val, Nothing, Truth, Int, Long, Null, At, Literal}
use Rattle.scode_ops.specs.declared.op.Op.{Op}
use Rattle.scode_ops.specs.Decoding.{size_of}
use Rattle.scode_image.specs.declared.image.Image.{Image}
use Rattle.scode_image.specs.declared.image.ImageMethod.{ImageMethod}
use Rattle.scode_code.specs.Fields.{Setting}
use Rattle.scode_code.specs.Machine.{Machine, Point, At as AtWork, Over, Move, Onward, Goto, Enter, Leave, moves}
use Rattle.scode_cells.specs.declared.cell.Cell.{Cell}
use Rattle.scode_cells.specs.Frames.{Frames, IsRunning, placed, running}
use Rattle.scode_vm.specs.Seen.{machine_seen, val_of, vals}

-- what the table of instructions says of one of them, or of some of one form
abbrev pub Doing : Type 0
Doing = Setting → List Val → State → End Move

abbrev pub state_seen : Setting → Place → Frames → Shared → State
state_seen w place s shared = record { shared = shared; locals = vals w place (running s).locals }

-- how it ends in the running frame
abbrev pub ending : Doing → Setting → Place → Frames → Shared → End Move
ending f w place s shared = f w (vals w place (running s).stack) (state_seen w place s shared)

-- it ended by a value or a trap, and not by what no typed code comes to
abbrev pub EndsTyped : {A : Type 0} → Result A Stop → Type 0
EndsTyped (Ok v) = Unit {0}
EndsTyped (Err (Traps trap)) = Unit {0}
EndsTyped (Err Untyped) = ⊥

-- beside so many locals there is room for the stack that it leaves
abbrev pub HasRoom : ℕ → ℕ → Result Move Stop → Type 0
HasRoom most locals (Ok (Onward stack)) = locals + length stack ≤ most
HasRoom most locals (Ok (Goto to stack)) = locals + length stack ≤ most
HasRoom most locals (Ok (Enter method args stack)) = Unit {0}
HasRoom most locals (Ok (Leave v)) = Unit {0}
HasRoom most locals (Err stop) = Unit {0}

-- a cell stands for a value: no reference leads nowhere
abbrev pub IsValue : Val → Type 0
IsValue Nothing = ⊥
IsValue (Truth t) = Unit {0}
IsValue (Int n) = Unit {0}
IsValue (Long n) = Unit {0}
IsValue Null = Unit {0}
IsValue (At spot) = Unit {0}
IsValue (Literal n) = Unit {0}

abbrev pub AreValues : Setting → Place → List Cell → Type 0
AreValues w place cells = All (λ c. IsValue (val_of w place c)) cells

-- in a root call it ends by a value or a trap, on cells that stand for values
pub record IsTypedOn (f : Doing) (w : Setting) (place : Place) (shared : Shared) (s : Frames) : Type 0 where
  pub locals : AreValues w place (running s).locals
  pub stack : AreValues w place (running s).stack
  pub ends : EndsTyped (ending f w place s shared).result

-- In some root call it does, and there is room for what it leaves. So the cells that it takes are there, and of the
-- kinds that it needs.
pub record MayDo (f : Doing) (s : Frames) : Type 0 where
  pub runs : IsRunning s
  pub w : Setting
  pub place : Place
  pub shared : Shared
  pub typed : IsTypedOn f w place shared s
  pub room : HasRoom s.most (length (running s).locals) (ending f w place s shared).result

-- there are cells enough for a frame of each method
abbrev pub HasCells : Image → ℕ → Type 0
HasCells image most = (number : ℕ) (m : ImageMethod) → slice_get image.methods number ≡ Some m
    → length m.locals + m.stack ≤ most

-- ---- what it leads to

-- the frames as they are now, or a trap
abbrev pub reached : Setting → Place → Result (Unit {0}) Trap → Frames → Shared → Point
reached w place (Ok u) s shared = AtWork (machine_seen w place s shared)
reached w place (Err trap) s shared = Over (record { result = Err (Traps trap); shared = shared })

-- frames whose running one stands behind an instruction
abbrev pub behind : Frames → Op → Frames
behind s i = placed s ((running s).place + size_of i)

-- where an end leads from a machine whose place is behind the instruction
abbrev pub point_from : Machine → End Move → Point
point_from m e = moves m.top m.below m.top.place e.result e.state

-- In every root call in which it is typed, it leads to these frames, or to this trap; and a frame runs on, with as much
-- room.
pub record Does (f : Doing) (old : Frames) (result : Result (Unit {0}) Trap) (new : Frames) : Type 0 where
  pub leads : (w : Setting) (place : Place) (shared : Shared) → IsTypedOn f w place shared old
      → reached w place result new shared ≡ point_from (machine_seen w place old shared) (ending f w place old shared)
  pub runs : IsRunning new
  pub most : new.most ≡ old.most

-- what is shared by frames with so many turns left, at this moment
abbrev pub sharing : Contents → Contents → ℕ → ℤ → Shared
sharing contents statics turns moment =
    record { contents = contents; statics = statics; turns = turns; moment = moment }

-- So it does with so many turns left, at this moment, and leaves others.
pub record DoesWith (f : Doing) (old : Frames) (turns : ℕ) (moment : ℤ) (result : Result (Unit {0}) Trap)
    (new : Frames) (left : ℕ) : Type 0 where
  pub leads : (w : Setting) (place : Place) (contents statics : Contents)
      → IsTypedOn f w place (sharing contents statics turns moment) old
      → reached w place result new (sharing contents statics left moment)
      ≡ point_from (machine_seen w place old (sharing contents statics turns moment))
      (ending f w place old (sharing contents statics turns moment))
  pub runs : IsRunning new
  pub most : new.most ≡ old.most

-- what traps, as the language has it
abbrev pub as_stop : {A : Type 0} → Result A Trap → Result A Stop
as_stop (Ok v) = Ok v
as_stop (Err trap) = Err (Traps trap)

-- an operator of which both operands have one width
abbrev pub IsStraight : Arithmetic → Type 0
IsStraight arithmetic.ShiftLeft = ⊥
IsStraight arithmetic.ShiftRight = ⊥
IsStraight op = Unit {0}
