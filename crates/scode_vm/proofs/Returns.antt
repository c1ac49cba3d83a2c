-- How returns end, and where they lead.
use Rattle.std.proofs.Common.{◌≡◌, ◌≢◌, ℕ, ℤ, ◌<◌, List, [], ◌∷◌, length, map, Some, Ok, refl, sym, ap, subst, ◌∙◌, arith}
use Rattle.std.specs.Prelude.{slice_get}
use Rattle.std.proofs.lemmas.List.Elements.{All-head}
use Rattle.sed_engine.specs.declared.call.Place.{Place}
use Rattle.sed_engine.specs.State.{Shared, State, gives}
use Rattle.sed_engine.specs.Values.{Val, Nothing, Truth, Int, Long, Null, At, Literal}
use Rattle.scode_ops.specs.declared.op.Op.TheVariants as op
use Rattle.scode_image.specs.declared.image.Image.{Image}
use Rattle.scode_code.specs.Fields.{Setting}
use Rattle.scode_code.specs.Machine.{At as AtWork, Leave, pushed as with_pushed, returned}
use Rattle.scode_code.specs.Steps.{effect}
use Rattle.scode_cells.specs.declared.cell.Cell.{Cell}
use Rattle.scode_cells.specs.Frames as cells
use Rattle.scode_cells.specs.Frames.{Frames, IsRunning, below, left, pushed, running}
use Rattle.scode_vm.specs.declared.course.Course.TheVariants.{On}
use Rattle.scode_vm.specs.Calling.{DoesOf, in_image}
use Rattle.scode_vm.specs.Doings.{AreValues, IsValue, point_from, sharing, state_seen}
use Rattle.scode_vm.specs.Seen.{frame_seen, machine_seen, val_of, vals}
use Rattle.scode_vm.proofs.Entering.{frames_long}

-- ---- frames below

abbrev frames_of : ℕ → List cells.Frame → Frames
frames_of most fs = record { frames = fs; most = most }

some_below : (s : Frames) → IsRunning s → length s.frames ≢ 1 → 0 < length (below s)
some_below s runs n = (let long = frames_long s.frames runs in omega (arith, long, n))

-- a value is one cell more
pub one_more : (v : Val) (stack : List Val) → IsValue v → with_pushed v stack ≡ v ∷ stack
one_more Nothing stack h = absurd h
one_more (Truth t) stack h = refl
one_more (Int n) stack h = refl
one_more (Long n) stack h = refl
one_more Null stack h = refl
one_more (At spot) stack h = refl
one_more (Literal n) stack h = refl

module _ (w : Setting) (place : Place) (most : ℕ) (shared : Shared) where
  goes_on_with : (c : Cell) (fs : List cells.Frame) → IsValue (val_of w place c) → 0 < length fs
      → AtWork (machine_seen w place (pushed (frames_of most fs) c) shared)
      ≡ returned (val_of w place c) (map (frame_seen w place) fs) shared
  goes_on_with c [] v h = absurd (omega arith)
  goes_on_with c (f ∷ fs) v h =
      ap (λ (stack : List Val). AtWork (record {
        top = record { method = f.method; place = f.place; locals = vals w place f.locals; stack = stack };
        below = map (frame_seen w place) fs;
        shared = shared;
      })) (sym (one_more (val_of w place c) (vals w place f.stack) v))

-- ---- with one

module _ (w : Setting) (place : Place) (st : State) where
  value_ends : (stack : List Cell) (c : Cell) → slice_get stack 0 ≡ Some c
      → effect w op.ReturnValue (vals w place stack) st ≡ gives (Leave (val_of w place c)) st
  value_ends [] c e = absurd (cc)
  value_ends (x ∷ xs) c e =
      (let same : x ≡ c = cc in ap (λ (y : Cell). gives (Leave (val_of w place y)) st) same)

first_value : (w : Setting) (place : Place) (stack : List Cell) (c : Cell) → slice_get stack 0 ≡ Some c
    → AreValues w place stack → IsValue (val_of w place c)
first_value w place [] c e h = absurd (cc)
first_value w place (x ∷ xs) c e h =
    (let same : x ≡ c = cc in subst (λ (y : Cell). IsValue (val_of w place y)) same (All-head (λ c. IsValue (val_of w place c)) x xs h))

module _ (image : Image) (s : Frames) (c : Cell) (top : slice_get (running s).stack 0 ≡ Some c) where
  module _ (new : Frames) (turns : ℕ) (moment : ℤ) where
    pub value_on : IsRunning s → length s.frames ≢ 1 → new ≡ pushed (left s) c
        → DoesOf image (λ w. effect w op.ReturnValue) s turns moment (Ok On) new turns
    value_on runs n is = record {
      leads = λ class place contents statics typed.
          let w : Setting = in_image image class in
          let shared : Shared = sharing contents statics turns moment in
          ap (λ (x : Frames). AtWork (machine_seen w place x shared)) is
          ∙ goes_on_with w place s.most shared c (below s)
          (first_value w place (running s).stack c top typed.stack) (some_below s runs n)
          ∙ sym (ap (point_from (machine_seen w place s shared))
          (value_ends w place (state_seen w place s shared) (running s).stack c top));
      runs = subst IsRunning (sym is) (let more : IsRunning (pushed (left s) c) = omega arith in more);
      most = ap (λ (x : Frames). x.most) is;
    }
