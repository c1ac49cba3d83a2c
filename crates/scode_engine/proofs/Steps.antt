-- From one instruction to a step, and from steps to the end.
use Rattle.std.proofs.Common.{◌≡◌, ℕ, ◌+◌, ◌<◌, length, Option, Some, None, Result, Ok, Err, refl, sym, ap, subst, ◌∙◌, arith}
use Rattle.std.specs.Prelude.{IsSomeAnd}
use Rattle.std.specs.FinMap as finite
use Rattle.std.specs.Option.{option_map}
use Rattle.sed_engine.specs.declared.call.Place.{Place}
use Rattle.sed_engine.specs.declared.trap.Trap.{Trap}
use Rattle.scode_image.specs.declared.image.Image.{Image}
use Rattle.scode_ops.specs.declared.op.Op.{Op}
use Rattle.scode_code.specs.Faults.{IsVerified}
use Rattle.scode_code.specs.Fields.{Setting}
use Rattle.scode_code.specs.Machine.{Machine, Point, At}
use Rattle.scode_code.specs.Steps.{effect, instruction_at, step, steps}
use Rattle.scode_code.specs.Verified.{KindsIn}
use Rattle.scode_sound.specs.Cells.{Concrete}
use Rattle.scode_sound.specs.Fine.{Fine, FineAt}
use Rattle.scode_sound.specs.Potential.{potential}
use Rattle.scode_mem.specs.Blocks.{Held, Kept}
use Rattle.scode_cells.specs.declared.cell.Cell.{Cell}
use Rattle.scode_cells.specs.Frames.{IsRunning, running}
use Rattle.scode_vm.specs.declared.course.Course.{Course}
use Rattle.scode_vm.specs.declared.course.Course.TheVariants.{On}
use Rattle.scode_vm.specs.declared.course.Course.TheVariants as course
use Rattle.scode_vm.specs.Calling.{HasRoomFor, RunsUnlessOver, arrived}
use Rattle.scode_vm.specs.Doings.{HasCells, HasRoom, IsTypedOn, behind, ending, point_from}
use Rattle.scode_vm.specs.Seen.{machine_seen}
use Rattle.scode_access.specs.Within.{IsGround, KeepsBlocks}
use Rattle.scode_engine.specs.AtWork.{DoesHere, IsAtWork, MayDoHere, Rooted, RunsTo, Running, StepsTo, point_of, running_on, setting_of, shared_by}

-- ---- what the laws of the machine say

abbrev pub Falls : Type 0
Falls = (w : Setting) (given : ℕ) (x : Machine) → IsVerified w.image → Concrete w.image w.class
    → FineAt w given (KindsIn w.image) x → potential w (step w (At x)) < potential w (At x)

abbrev pub GoOn : Type 0
GoOn = (w : Setting) (given : ℕ) (x : Machine) → IsVerified w.image → Concrete w.image w.class
    → FineAt w given (KindsIn w.image) x → Fine w given (KindsIn w.image) (step w (At x))

-- ---- the component is still live

same_class : (o p : Option Kept) (class : ℕ) → option_map (λ k. k.class) p ≡ option_map (λ k. k.class) o
    → IsSomeAnd o (λ k. k.class ≡ class) → IsSomeAnd p (λ k. k.class ≡ class)
same_class None p class e h = absurd h
same_class (Some a) None class e h = absurd (cc)
same_class (Some a) (Some b) class e h = (let same : b.class ≡ a.class = cc in same ∙ h)

pub ground_on : (w : Setting) (place : Place) (old new : Held) → IsGround w place old
    → KeepsBlocks w.image place old new → IsGround w place new
ground_on w place old new ground keeps = record {
  agree = ground.agree;
  fit = keeps.fit;
  block = same_class (finite.get old.live place.0) (finite.get new.live place.0) w.class (keeps.classes place.0)
      ground.block;
}

pub kept_on : (image : Image) (place : Place) (a b c : Held) → KeepsBlocks image place a b → KeepsBlocks image place b c
    → KeepsBlocks image place a c
kept_on image place a b c p q = record {
  fit = q.fit;
  others = λ x n m. q.others x n m ∙ p.others x n m;
  classes = λ x. q.classes x ∙ p.classes x;
  firsts = q.firsts ∙ p.firsts;
  limit = q.limit ∙ p.limit;
}

-- ---- a step

module _ (q : Rooted) (old : Running) (work : IsAtWork q old) (i : Op)
    (here : instruction_at q.image (running old.cells).method (running old.cells).place ≡ Some i) where
  abbrev behind_it : Running
  behind_it = running_on (behind old.cells i) old.blocks old.turns

  pub may_here : IsTypedOn (λ w. effect w i) (setting_of q) q.place (shared_by q old) (behind old.cells i)
      → HasRoom old.cells.most (length (running old.cells).locals)
      (ending (λ w. effect w i) (setting_of q) q.place (behind old.cells i) (shared_by q old)).result
      → HasRoomFor q.image (behind old.cells i)
      (ending (λ w. effect w i) (setting_of q) q.place (behind old.cells i) (shared_by q old)).result
      → MayDoHere q (λ w. effect w i) behind_it
  may_here typed room room_for = record {
    runs = let on : IsRunning (behind old.cells i) = omega arith in on;
    ground = work.ground;
    typed = typed;
    room = room;
    room_for = room_for;
  }

  module _ (result : Result Course Trap) (new : Running) (d : DoesHere q (λ w. effect w i) behind_it result new)
      (go_on : GoOn)
      (is : step (setting_of q) (point_of q old)
      ≡ point_from (machine_seen (setting_of q) q.place (behind old.cells i) (shared_by q old))
      (ending (λ w. effect w i) (setting_of q) q.place (behind old.cells i) (shared_by q old))) where
    led : arrived (setting_of q) q.place result new.cells (shared_by q new) ≡ step (setting_of q) (point_of q old)
    led = d.leads ∙ sym is

    still_runs : result ≡ Ok On → IsRunning new.cells
    still_runs e = subst (λ (r : Result Course Trap). RunsUnlessOver r new.cells) e d.runs

    at_work : result ≡ Ok On → IsAtWork q new
    at_work e =
        let there : step (setting_of q) (point_of q old) ≡ point_of q new =
        sym led ∙ ap (λ (r : Result Course Trap). arrived (setting_of q) q.place r new.cells (shared_by q new)) e in
        record {
          verified = work.verified;
          own = work.own;
          ground = ground_on (setting_of q) q.place old.blocks new.blocks work.ground d.keeps;
          runs = still_runs e;
          cells = subst (HasCells q.image) (sym d.most) work.cells;
          given = work.given;
          fine = subst (Fine (setting_of q) work.given (KindsIn q.image)) there
              (go_on (setting_of q) work.given (machine_seen (setting_of q) q.place old.cells (shared_by q old))
              work.verified work.own work.fine);
        }

    pub stepped : StepsTo q old result new
    stepped = record { leads = led; keeps = d.keeps; most = d.most; work = at_work }

-- ---- many

-- so far it is at work, after some steps
pub record Reaches (q : Rooted) (start now : Running) : Type 0 where
  pub work : IsAtWork q now
  pub count : ℕ
  pub reached : steps (setting_of q) count (point_of q start) ≡ point_of q now
  pub keeps : KeepsBlocks q.image q.place start.blocks now.blocks
  pub most : now.cells.most ≡ start.cells.most

abbrev pub Sums : Type 0
Sums = (w : Setting) (n m : ℕ) (p : Point) → steps w (n + m) p ≡ steps w m (steps w n p)

no_steps : (w : Setting) (p : Point) → steps w 0 p ≡ p
unfolding steps
no_steps w p = refl

one_step : (w : Setting) (p : Point) → steps w 1 p ≡ step w p
unfolding steps
one_step w p = refl

pub begins_so : (q : Rooted) (start : Running) → IsAtWork q start → Reaches q start start
begins_so q start work = record {
  work = work;
  count = 0;
  reached = no_steps (setting_of q) (point_of q start);
  keeps = record {
    fit = work.ground.fit;
    others = λ b n m. refl;
    classes = λ p. refl;
    firsts = refl;
    limit = refl;
  };
  most = refl;
}

module _ (sums : Sums) (q : Rooted) (start now : Running) (r : Reaches q start now) (result : Result Course Trap)
    (new : Running) (s : StepsTo q now result new) where
  one_more : steps (setting_of q) (r.count + 1) (point_of q start)
      ≡ arrived (setting_of q) q.place result new.cells (shared_by q new)
  one_more =
      sums (setting_of q) r.count 1 (point_of q start)
      ∙ ap (steps (setting_of q) 1) r.reached
      ∙ one_step (setting_of q) (point_of q now)
      ∙ sym s.leads

  all_kept : KeepsBlocks q.image q.place start.blocks new.blocks
  all_kept = kept_on q.image q.place start.blocks now.blocks new.blocks r.keeps s.keeps

  pub goes_on : result ≡ Ok On → Reaches q start new
  goes_on e = record {
    work = s.work e;
    count = r.count + 1;
    reached = one_more
        ∙ ap (λ (x : Result Course Trap). arrived (setting_of q) q.place x new.cells (shared_by q new)) e;
    keeps = all_kept;
    most = s.most ∙ r.most;
  }

  pub falls : Falls → result ≡ Ok On
      → potential (setting_of q) (point_of q new) < potential (setting_of q) (point_of q now)
  falls fall e =
      let there : step (setting_of q) (point_of q now) ≡ point_of q new =
      sym s.leads ∙ ap (λ (x : Result Course Trap). arrived (setting_of q) q.place x new.cells (shared_by q new)) e in
      subst (λ (p : Point). potential (setting_of q) p < potential (setting_of q) (point_of q now)) there
      (fall (setting_of q) r.work.given (machine_seen (setting_of q) q.place now.cells (shared_by q now))
      r.work.verified r.work.own r.work.fine)

  pub ends_with : (c : Option Cell) → result ≡ Ok (course.Over c) → RunsTo q start (Ok c) new
  ends_with c e = record {
    count = r.count + 1;
    over = one_more
        ∙ ap (λ (x : Result Course Trap). arrived (setting_of q) q.place x new.cells (shared_by q new)) e;
    keeps = all_kept;
    most = s.most ∙ r.most;
  }

  pub ends_by : (trap : Trap) → result ≡ Err trap → RunsTo q start (Err trap) new
  ends_by trap e = record {
    count = r.count + 1;
    over = one_more
        ∙ ap (λ (x : Result Course Trap). arrived (setting_of q) q.place x new.cells (shared_by q new)) e;
    keeps = all_kept;
    most = s.most ∙ r.most;
  }
