-- What may be done in a root call, and what is done in it, from what the groups of instructions ask and give.
use Rattle.std.proofs.Common.{◌≡◌, ℕ, Result, Ok, Err, refl, sym, subst, ◌∙◌}
use Rattle.sed_engine.specs.declared.call.Place.{Place}
use Rattle.sed_engine.specs.declared.trap.Trap.{Trap}
use Rattle.sed_engine.specs.State.{Shared}
use Rattle.scode_code.specs.Fields.{Setting}
use Rattle.scode_code.specs.Steps.{effect}
use Rattle.scode_ops.specs.declared.op.Op.{Op}
use Rattle.scode_mem.specs.Blocks.{Held}
use Rattle.scode_cells.specs.Frames.{Frames, IsRunning}
use Rattle.scode_vm.specs.declared.course.Course.{Course}
use Rattle.scode_vm.specs.Calling.{DoesOf, MayDoOf, RunsUnlessOver, arrived}
use Rattle.scode_vm.specs.Doings.{Does, DoesWith, Doing, MayDo, behind, reached}
use Rattle.scode_access.specs.Within.{DoesIn, IsGround, KeepsBlocks, MayDoIn}
use Rattle.scode_engine.specs.AtWork.{DoesHere, DoesNext, MayDoHere, MayDoNext, Rooted, Running, on_or_trap, running_on, setting_of, shared_by}

-- ---- what may be done

module _ (q : Rooted) (f : Doing) (r : Running) (may : MayDoHere q f r) where
  pub may_do : MayDo f r.cells
  may_do = record {
    runs = may.runs;
    w = setting_of q;
    place = q.place;
    shared = shared_by q r;
    typed = may.typed;
    room = may.room;
  }

  pub may_do_of : MayDoOf q.image f r.cells r.turns
  may_do_of = record {
    runs = may.runs;
    class = q.class;
    place = q.place;
    contents = (shared_by q r).contents;
    statics = (shared_by q r).statics;
    moment = q.moment;
    typed = may.typed;
    room = may.room_for;
  }

  pub may_do_in : MayDoIn f q.image r.cells r.blocks
  may_do_in = record {
    runs = may.runs;
    class = q.class;
    place = q.place;
    turns = r.turns;
    moment = q.moment;
    ground = may.ground;
    typed = may.typed;
    room = may.room;
  }

-- ---- what is done

-- blocks that stay
pub all_kept : (w : Setting) (place : Place) (h : Held) → IsGround w place h → KeepsBlocks w.image place h h
all_kept w place h ground = record {
  fit = ground.fit;
  others = λ b n m. refl;
  classes = λ q. refl;
  firsts = refl;
  limit = refl;
}

arrives : (w : Setting) (place : Place) (result : Result (Unit {0}) Trap) (s : Frames) (shared : Shared)
    → arrived w place (on_or_trap result) s shared ≡ reached w place result s shared
arrives w place (Ok u) s shared = refl
arrives w place (Err trap) s shared = refl

runs_on : (result : Result (Unit {0}) Trap) (s : Frames) → IsRunning s → RunsUnlessOver (on_or_trap result) s
runs_on (Ok u) s h = h
runs_on (Err trap) s h = tt

module _ (q : Rooted) (f : Doing) (old : Frames) (h : Held) (turns : ℕ) (may : MayDoHere q f (running_on old h turns))
  where
    pub does : (result : Result (Unit {0}) Trap) (new : Frames) → Does f old result new
        → DoesHere q f (running_on old h turns) (on_or_trap result) (running_on new h turns)
    does result new d = record {
      leads = arrives (setting_of q) q.place result new (shared_by q (running_on new h turns))
          ∙ d.leads (setting_of q) q.place (shared_by q (running_on old h turns)) may.typed;
      keeps = all_kept (setting_of q) q.place h may.ground;
      runs = runs_on result new d.runs;
      most = d.most;
    }

    pub does_with : (result : Result (Unit {0}) Trap) (new : Frames) (left : ℕ)
        → DoesWith f old turns q.moment result new left
        → DoesHere q f (running_on old h turns) (on_or_trap result) (running_on new h left)
    does_with result new left d = record {
      leads = arrives (setting_of q) q.place result new (shared_by q (running_on new h left))
          ∙ d.leads (setting_of q) q.place (shared_by q (running_on old h turns)).contents
          (shared_by q (running_on old h turns)).statics may.typed;
      keeps = all_kept (setting_of q) q.place h may.ground;
      runs = runs_on result new d.runs;
      most = d.most;
    }

    pub does_in : (result : Result (Unit {0}) Trap) (new : Frames) (after : Held)
        → DoesIn f q.image old h result new after
        → DoesHere q f (running_on old h turns) (on_or_trap result) (running_on new after turns)
    does_in result new after d = record {
      leads = arrives (setting_of q) q.place result new (shared_by q (running_on new after turns))
          ∙ d.leads q.class q.place turns q.moment may.ground may.typed;
      keeps = d.keeps q.class q.place turns q.moment may.ground may.typed;
      runs = runs_on result new d.runs;
      most = d.most;
    }

    pub does_of : (result : Result Course Trap) (new : Frames) (left : ℕ)
        → DoesOf q.image f old turns q.moment result new left
        → DoesHere q f (running_on old h turns) result (running_on new h left)
    does_of result new left d = record {
      leads = d.leads q.class q.place (shared_by q (running_on old h turns)).contents
          (shared_by q (running_on old h turns)).statics may.typed;
      keeps = all_kept (setting_of q) q.place h may.ground;
      runs = d.runs;
      most = d.most;
    }

-- ---- behind an instruction

-- frames that stand behind an instruction that may be done there
module _ (q : Rooted) (i : Op) (s : Frames) (h : Held) (turns : ℕ) (next : MayDoNext q i (running_on s h turns))
    (t : Frames) (e : t ≡ behind s i) where
  may_there : MayDoHere q (λ w. effect w i) (running_on t h turns)
  may_there = subst (λ (x : Frames). MayDoHere q (λ w. effect w i) (running_on x h turns)) (sym e) next.may

  pub may : MayDo (λ w. effect w i) t
  may = may_do q (λ w. effect w i) (running_on t h turns) may_there

  pub may_of : MayDoOf q.image (λ w. effect w i) t turns
  may_of = may_do_of q (λ w. effect w i) (running_on t h turns) may_there

  pub may_in : MayDoIn (λ w. effect w i) q.image t h
  may_in = may_do_in q (λ w. effect w i) (running_on t h turns) may_there

  from_there : (a b : Result Course Trap) (new : Running) → a ≡ b
      → DoesHere q (λ w. effect w i) (running_on t h turns) b new → DoesNext q i (running_on s h turns) a new
  from_there a b new same d =
      subst (λ (x : Frames). DoesHere q (λ w. effect w i) (running_on x h turns) a new) e
      (subst (λ (r : Result Course Trap). DoesHere q (λ w. effect w i) (running_on t h turns) r new) (sym same) d)

  pub done : (a : Result Course Trap) (result : Result (Unit {0}) Trap) (new : Frames) → a ≡ on_or_trap result
      → Does (λ w. effect w i) t result new → DoesNext q i (running_on s h turns) a (running_on new h turns)
  done a result new same d =
      from_there a (on_or_trap result) (running_on new h turns) same
      (does q (λ w. effect w i) t h turns may_there result new d)

  pub done_with : (a : Result Course Trap) (result : Result (Unit {0}) Trap) (new : Frames) (left : ℕ)
      → a ≡ on_or_trap result → DoesWith (λ w. effect w i) t turns q.moment result new left
      → DoesNext q i (running_on s h turns) a (running_on new h left)
  done_with a result new left same d =
      from_there a (on_or_trap result) (running_on new h left) same
      (does_with q (λ w. effect w i) t h turns may_there result new left d)

  pub done_in : (a : Result Course Trap) (result : Result (Unit {0}) Trap) (new : Frames) (after : Held)
      → a ≡ on_or_trap result → DoesIn (λ w. effect w i) q.image t h result new after
      → DoesNext q i (running_on s h turns) a (running_on new after turns)
  done_in a result new after same d =
      from_there a (on_or_trap result) (running_on new after turns) same
      (does_in q (λ w. effect w i) t h turns may_there result new after d)

  pub done_of : (result : Result Course Trap) (new : Frames) (left : ℕ)
      → DoesOf q.image (λ w. effect w i) t turns q.moment result new left
      → DoesNext q i (running_on s h turns) result (running_on new h left)
  done_of result new left d =
      from_there result result (running_on new h left) refl
      (does_of q (λ w. effect w i) t h turns may_there result new left d)
