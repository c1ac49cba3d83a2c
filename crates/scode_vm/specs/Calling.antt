-- What calls and returns do to frames of cells and to the turns left, and when they may be done. What a call does is
-- said of the root calls of one image: its tables and methods are looked at.
use Rattle.std.specs.Prelude.{ℕ, suc, ℤ, pos, ◌≡◌, ◌+◌, ◌<◌, ◌≤◌, ◌==◌, List, [], length, map, drop, slice_get}
use Rattle.std.specs.Prelude.{◌-◌, if◌then◌else◌, IsTrue, Option, Some, None, IfSome, Result, Ok, Err}
use Rattle.sed_typed.specs.Contents.{Contents}
use Rattle.sed_engine.specs.declared.call.Place.{Place}
use Rattle.sed_engine.specs.declared.trap.Trap.{Trap}
use Rattle.sed_engine.specs.declared.trap.Trap.TheVariants.{TooDeep, TurnsSpent}
use Rattle.sed_engine.specs.State.{Shared}
use Rattle.sed_engine.specs.Stops.{Stop, Traps}
use Rattle.sed_engine.specs.Values.{Val, Nothing}
use Rattle.scode_image.specs.declared.image.Image.{Image}
use Rattle.scode_image.specs.declared.image.ImageKind.{ImageKind}
use Rattle.scode_image.specs.declared.image.ImageMethod.{ImageMethod}
use Rattle.scode_code.specs.Calls.{argument_count, is_instance}
use Rattle.scode_code.specs.Fields.{Setting}
use Rattle.scode_code.specs.Machine.{Point, At as AtWork, Over as IsOver, Move, Onward, Goto, Enter, Leave, pushed}
use Rattle.scode_cells.specs.declared.cell.Cell.{Cell}
use Rattle.scode_cells.specs.declared.cell.Cell.TheVariants as cell
use Rattle.scode_cells.specs.Frames.{Frames, IsRunning, entered, left, most_frames, running}
use Rattle.scode_vm.specs.declared.course.Course.{Course}
use Rattle.scode_vm.specs.declared.course.Course.TheVariants.{On, Over}
use Rattle.scode_vm.specs.Doings.{Doing, IsTypedOn, ending, point_from, sharing}
use Rattle.scode_vm.specs.Seen.{machine_seen, val_of}

-- ---- what locals begin as

-- 0, false or null
abbrev pub zero_cell : ImageKind → Cell
zero_cell k =
    if k.kind == 1 then cell.Bool 0
    else if k.kind == 2 then cell.Int (pos 0)
    else if k.kind == 3 then cell.Long (pos 0)
    else cell.Null

-- what each local of each method of an image begins as where it is no argument
abbrev pub AreZeros : Image → List (List Cell) → Type 0
AreZeros image zeros = zeros ≡ map (λ m. map zero_cell m.locals) image.methods

-- ---- when it may be done

-- a root call of an image, on a component of a class
abbrev pub in_image : Image → ℕ → Setting
in_image image class = record { image = image; class = class }

-- There is room for what an end leaves: for a new frame, which has as many locals as its method, where one more may be;
-- and for what the running frame gives to the one below it, if there is one.
abbrev pub HasRoomFor : Image → Frames → Result Move Stop → Type 0
HasRoomFor image s (Ok (Enter number locals stack)) = length s.frames < most_frames
    → IfSome (slice_get image.methods number)
    (λ m. (length locals ≡ length m.locals) × (length m.locals ≤ s.most))
HasRoomFor image s (Ok (Leave v)) = IsRunning (left s)
    → length (running (left s)).locals + (length (pushed v []) + length (running (left s)).stack) ≤ s.most
HasRoomFor image s (Ok (Onward stack)) = Unit {0}
HasRoomFor image s (Ok (Goto to stack)) = Unit {0}
HasRoomFor image s (Err stop) = Unit {0}

-- In some root call of this image with so many turns left it does, and there is room for what it leaves.
pub record MayDoOf (image : Image) (f : Doing) (s : Frames) (turns : ℕ) : Type 0 where
  pub runs : IsRunning s
  pub class : ℕ
  pub place : Place
  pub contents : Contents
  pub statics : Contents
  pub moment : ℤ
  pub typed : IsTypedOn f (in_image image class) place (sharing contents statics turns moment) s
  pub room : HasRoomFor image s
      (ending f (in_image image class) place s (sharing contents statics turns moment)).result

-- it may in some image
abbrev pub MayDoOfAny : Doing → Frames → Type 0
MayDoOfAny f s = (image : Image) × (turns : ℕ) × MayDoOf image f s turns

-- ---- what it leads to

-- what a root call comes to
abbrev pub given_by : Setting → Place → Option Cell → Val
given_by w place (Some c) = val_of w place c
given_by w place None = Nothing

-- the frames as they are now, or the end of the root call
abbrev pub arrived : Setting → Place → Result Course Trap → Frames → Shared → Point
arrived w place (Ok On) s shared = AtWork (machine_seen w place s shared)
arrived w place (Ok (Over c)) s shared = IsOver (record { result = Ok (given_by w place c); shared = shared })
arrived w place (Err trap) s shared = IsOver (record { result = Err (Traps trap); shared = shared })

abbrev pub RunsUnlessOver : Result Course Trap → Frames → Type 0
RunsUnlessOver (Ok On) s = IsRunning s
RunsUnlessOver (Ok (Over c)) s = Unit {0}
RunsUnlessOver (Err trap) s = Unit {0}

-- In every root call of this image in which it is typed, with so many turns left at this moment, it leads to these
-- frames with so many left, or to this end; and each frame has as much room.
pub record DoesOf (image : Image) (f : Doing) (old : Frames) (turns : ℕ) (moment : ℤ) (result : Result Course Trap)
    (new : Frames) (remaining : ℕ) : Type 0 where
  pub leads : (class : ℕ) (place : Place) (contents statics : Contents)
      → IsTypedOn f (in_image image class) place (sharing contents statics turns moment) old
      → arrived (in_image image class) place result new (sharing contents statics remaining moment)
      ≡ point_from (machine_seen (in_image image class) place old (sharing contents statics turns moment))
      (ending f (in_image image class) place old (sharing contents statics turns moment))
  pub runs : RunsUnlessOver result new
  pub most : new.most ≡ old.most

-- ---- into a method

-- the receiver of a call is null: it is the lowest of its arguments
abbrev pub HasNullReceiver : ImageMethod → List Cell → Type 0
HasNullReceiver m stack = IsTrue (is_instance m) × (slice_get stack (argument_count m - 1) ≡ Some cell.Null)

-- A turn is taken first; then a frame is entered whose locals are so many arguments off the stack, and behind them what
-- the method's others begin as.
pub data GoesInto (number args : ℕ) (zeros : List Cell) (old : Frames) (turns : ℕ) (result : Result Course Trap)
    (new : Frames) (remaining : ℕ) : Type 0 where
  Spent : turns ≡ 0 → remaining ≡ 0 → result ≡ Err TurnsSpent → new ≡ old
      → GoesInto number args zeros old turns result new remaining
  Deep : turns ≡ suc remaining → length old.frames ≡ most_frames → result ≡ Err TooDeep → new ≡ old
      → GoesInto number args zeros old turns result new remaining
  Entered : turns ≡ suc remaining → length old.frames < most_frames → result ≡ Ok On
      → new ≡ entered old number args (drop args zeros)
      → GoesInto number args zeros old turns result new remaining
