-- A root call that runs on frames of cells and the blocks of a pool, and where it leads.
use Rattle.std.specs.Prelude.{ℕ, ℤ, ◌≡◌, ◌+◌, ◌≤◌, length, Option, Result, Ok, Err}
use Rattle.sed_engine.specs.declared.call.Place.{Place}
use Rattle.sed_engine.specs.declared.trap.Trap.{Trap}
use Rattle.sed_engine.specs.Expressions.{Called}
use Rattle.sed_engine.specs.State.{Shared}
use Rattle.sed_engine.specs.Stops.{Traps}
use Rattle.scode_ops.specs.declared.op.Op.{Op}
use Rattle.scode_ops.specs.Decoding.{size_of}
use Rattle.scode_image.specs.declared.image.Image.{Image}
use Rattle.scode_code.specs.Faults.{IsVerified}
use Rattle.scode_code.specs.Fields.{Setting}
use Rattle.scode_code.specs.Machine.{Point, At, Over}
use Rattle.scode_code.specs.Steps.{effect, step, steps}
use Rattle.scode_code.specs.Verified.{KindsIn}
use Rattle.scode_sound.specs.Cells.{Concrete}
use Rattle.scode_sound.specs.Fine.{FineAt}
use Rattle.scode_mem.specs.Blocks.{Held}
use Rattle.scode_cells.specs.declared.cell.Cell.{Cell}
use Rattle.scode_cells.specs.Frames.{Frames, IsRunning, running}
use Rattle.scode_vm.specs.declared.course.Course.{Course}
use Rattle.scode_vm.specs.declared.course.Course.TheVariants.{On}
use Rattle.scode_vm.specs.Calling.{HasRoomFor, RunsUnlessOver, arrived, given_by, in_image}
use Rattle.scode_vm.specs.Doings.{Doing, HasCells, HasRoom, IsTypedOn, behind, ending, point_from}
use Rattle.scode_vm.specs.Seen.{machine_seen, shared_seen}
use Rattle.scode_access.specs.Within.{IsGround, KeepsBlocks}

-- what a root call changes: frames, blocks, and the turns that are left
pub record Running : Type 0 where
  pub cells : Frames
  pub blocks : Held
  pub turns : ℕ

abbrev pub running_on : Frames → Held → ℕ → Running
running_on cells blocks turns = record { cells = cells; blocks = blocks; turns = turns }

-- a root call: its image, the class and the place of its component, and the moment
pub record Rooted : Type 0 where
  pub image : Image
  pub class : ℕ
  pub place : Place
  pub moment : ℤ

abbrev pub setting_of : Rooted → Setting
setting_of q = in_image q.image q.class

abbrev pub shared_by : Rooted → Running → Shared
shared_by q r = shared_seen (setting_of q) q.place r.blocks r.turns q.moment

-- where the machine stands
abbrev pub point_of : Rooted → Running → Point
point_of q r = At (machine_seen (setting_of q) q.place r.cells (shared_by q r))

-- The image is verified, the object is live and of a class of which objects may be, among blocks that fit; there are
-- cells enough for each method, and the frames are those of a fine machine.
pub record IsAtWork (q : Rooted) (r : Running) : Type 0 where
  pub verified : IsVerified q.image
  pub own : Concrete q.image q.class
  pub ground : IsGround (setting_of q) q.place r.blocks
  pub runs : IsRunning r.cells
  pub cells : HasCells q.image r.cells.most
  pub given : ℕ
  pub fine : FineAt (setting_of q) given (KindsIn q.image)
      (machine_seen (setting_of q) q.place r.cells (shared_by q r))

-- ---- one instruction

-- what leaves frames that run on, or traps
abbrev pub on_or_trap : Result (Unit {0}) Trap → Result Course Trap
on_or_trap (Ok u) = Ok On
on_or_trap (Err trap) = Err trap

-- it ends by a value or a trap, and there is room for what it leaves
pub record MayDoHere (q : Rooted) (f : Doing) (r : Running) : Type 0 where
  pub runs : IsRunning r.cells
  pub ground : IsGround (setting_of q) q.place r.blocks
  pub typed : IsTypedOn f (setting_of q) q.place (shared_by q r) r.cells
  pub room : HasRoom r.cells.most (length (running r.cells).locals)
      (ending f (setting_of q) q.place r.cells (shared_by q r)).result
  pub room_for : HasRoomFor q.image r.cells (ending f (setting_of q) q.place r.cells (shared_by q r)).result

-- it leads to these frames and blocks, or to this end
pub record DoesHere (q : Rooted) (f : Doing) (old : Running) (result : Result Course Trap) (new : Running)
    : Type 0 where
  pub leads : arrived (setting_of q) q.place result new.cells (shared_by q new)
      ≡ point_from (machine_seen (setting_of q) q.place old.cells (shared_by q old))
      (ending f (setting_of q) q.place old.cells (shared_by q old))
  pub keeps : KeepsBlocks q.image q.place old.blocks new.blocks
  pub runs : RunsUnlessOver result new.cells
  pub most : new.cells.most ≡ old.cells.most

-- ---- one instruction where it stands

-- the frames behind it
abbrev pub past : Running → Op → Running
past r i = running_on (behind r.cells i) r.blocks r.turns

-- The place behind it has 16 bits, and there it may be done.
pub record MayDoNext (q : Rooted) (i : Op) (r : Running) : Type 0 where
  pub runs : IsRunning r.cells
  pub fits : (running r.cells).place + size_of i ≤ 65535
  pub may : MayDoHere q (λ w. effect w i) (past r i)

-- done behind it, it leads to these frames and blocks, or to this end
abbrev pub DoesNext : Rooted → Op → Running → Result Course Trap → Running → Type 0
DoesNext q i old result new = DoesHere q (λ w. effect w i) (past old i) result new

-- ---- one step

-- The machine's next step leads to these frames and blocks, where the root call is at work if it goes on, or to this
-- end.
pub record StepsTo (q : Rooted) (old : Running) (result : Result Course Trap) (new : Running) : Type 0 where
  pub leads : arrived (setting_of q) q.place result new.cells (shared_by q new) ≡ step (setting_of q) (point_of q old)
  pub keeps : KeepsBlocks q.image q.place old.blocks new.blocks
  pub most : new.cells.most ≡ old.cells.most
  pub work : result ≡ Ok On → IsAtWork q new

-- ---- to the end

abbrev pub end_of : Rooted → Result (Option Cell) Trap → Shared → Called
end_of q (Ok c) shared = record { result = Ok (given_by (setting_of q) q.place c); shared = shared }
end_of q (Err trap) shared = record { result = Err (Traps trap); shared = shared }

-- after some steps the machine is over with this end
pub record RunsTo (q : Rooted) (old : Running) (result : Result (Option Cell) Trap) (new : Running) : Type 0 where
  pub count : ℕ
  pub over : steps (setting_of q) count (point_of q old) ≡ Over (end_of q result (shared_by q new))
  pub keeps : KeepsBlocks q.image q.place old.blocks new.blocks
  pub most : new.cells.most ≡ old.cells.most
