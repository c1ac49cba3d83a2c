-- A root call from its beginning to its end.
use Rattle.std.proofs.Common.{◌≡◌, ℕ, suc, ◌+◌, ◌-◌, List, [], length, map, drop, Option, Some, None, Result, Ok, refl, sym, ap, subst, ◌∙◌, arith, length-append}
use Rattle.std.specs.Prelude.{slice_get, IfSome, IsSomeAnd}
use Rattle.std.proofs.lemmas.List.{length-drop, length-map}
use Rattle.sed_engine.specs.declared.call.Place.{Place}
use Rattle.sed_engine.specs.declared.trap.Trap.{Trap}
use Rattle.sed_engine.specs.Asked.{MayAsk}
use Rattle.sed_engine.specs.Code.{Question}
use Rattle.sed_engine.specs.Expressions.{Called}
use Rattle.sed_engine.specs.Root.{argument_of}
use Rattle.sed_engine.specs.State.{Shared}
use Rattle.sed_engine.specs.Values.{Val}
use Rattle.scode_image.specs.declared.image.Image.{Image}
use Rattle.scode_image.specs.declared.image.ImageMethod.{ImageMethod}
use Rattle.scode_code.specs.Calls.{locals_of, zero_of}
use Rattle.scode_code.specs.Faults.{IsVerified}
use Rattle.scode_code.specs.Fields.{Setting}
use Rattle.scode_code.specs.Image.{code_of}
use Rattle.scode_code.specs.Machine.{Point, At, Over}
use Rattle.scode_code.specs.Root.{begins, ended, most_steps, root_arguments, root_method}
use Rattle.scode_code.specs.Steps.{steps}
use Rattle.scode_code.specs.Verified.{KindsIn}
use Rattle.scode_sound.specs.Cells.{Concrete}
use Rattle.scode_sound.specs.Fine.{Fine}
use Rattle.scode_sound.specs.Over.{IsOverWithin, setting_of as setting_asked, shared_of}
use Rattle.scode_sound.proofs.Cells.{fit_length}
use Rattle.scode_cells.specs.declared.cell.Cell.{Cell}
use Rattle.scode_cells.specs.Frames.{Frames, IsRunning, cleared}
use Rattle.scode_vm.specs.Calling.{given_by}
use Rattle.scode_vm.specs.Doings.{HasCells, IsValue}
use Rattle.scode_vm.specs.Seen.{machine_seen, val_of}
use Rattle.scode_engine.specs.AtWork.{IsAtWork, Rooted, RunsTo, Running, end_of, running_on, setting_of, shared_by}
use Rattle.scode_engine.specs.RootCall.{EndsAs, MayBegin, argument_cells, question_of}
use Rattle.scode_vm.proofs.Returns.{one_more}
use Rattle.scode_engine.proofs.Begins.{HasPlace}

-- ---- what the laws of the machine say

abbrev pub BeginsFine : Type 0
BeginsFine = (image : Image) (q : Question) (number : ℕ) (value : Val) → IsVerified image → MayAsk (code_of image) q
    → root_method image q.class q.which ≡ Ok (Some number) → argument_of q.argument ≡ Ok value
    → Fine (setting_asked image q) q.turns (KindsIn image)
    (begins (slice_get image.methods number) number value (shared_of q))

abbrev pub AreOver : Type 0
AreOver = (image : Image) (q : Question) (number : ℕ) (value : Val) → IsVerified image → MayAsk (code_of image) q
    → root_method image q.class q.which ≡ Ok (Some number) → argument_of q.argument ≡ Ok value
    → IsOverWithin (setting_asked image q) (most_steps image q.turns)
    (begins (slice_get image.methods number) number value (shared_of q))

abbrev pub AskedClass : Type 0
AskedClass = (image : Image) (q : Question) → IsVerified image → MayAsk (code_of image) q → Concrete image q.class

abbrev pub Once : Type 0
Once = (w : Setting) (n m : ℕ) (p : Point) (c d : Called) → steps w n p ≡ Over c → steps w m p ≡ Over d → c ≡ d

-- ---- a root call

-- its locals are as many as its method's
arguments_long : (w : Setting) (place : Place) (argument : Option Cell)
    → IfSome argument (λ c. IsValue (val_of w place c))
    → length (root_arguments (given_by w place argument)) ≡ 1 + length (argument_cells argument)
arguments_long w place None h = refl
arguments_long w place (Some c) h = ap (λ (vs : List Val). suc (length vs)) (one_more (val_of w place c) [] h)

module _ (q : Rooted) (number : ℕ) (argument : Option Cell) (r : Running) (b : MayBegin q number argument r) where
  abbrev value : Val
  value = given_by (setting_of q) q.place argument

  abbrev question : Question
  question = question_of q r b.which b.value

  abbrev beginning : Point
  beginning = begins (slice_get q.image.methods number) number value (shared_by q r)

  fine_there : BeginsFine → Fine (setting_of q) r.turns (KindsIn q.image) beginning
  fine_there fine = fine q.image question number value b.verified b.asked b.found b.given

  -- the method is there, with room for the arguments
  pub has_place : BeginsFine → IsSomeAnd (slice_get q.image.methods number) (HasPlace argument r.cells)
  has_place fine = by_case (slice_get q.image.methods number) refl (fine_there fine)
    where
      by_case : (o : Option ImageMethod) → slice_get q.image.methods number ≡ o
          → Fine (setting_of q) r.turns (KindsIn q.image) (begins o number value (shared_by q r)) → IsSomeAnd o
          (HasPlace argument r.cells)
      by_case None e h = absurd h.typed
      by_case (Some m) e h =
          let same : h.at.m ≡ m = (let both : Some h.at.m ≡ Some m = sym h.at.known ∙ e in cc) in
          let args : List Val = root_arguments value in
          let long = fit_length (setting_of q) h.shape.locals (locals_of m args) h.fit_locals in
          let many : length h.shape.locals ≡ length m.locals =
          h.at.many ∙ ap (λ (x : ImageMethod). length x.locals) same in
          let whole = length-append args (map zero_of (drop (length args) m.locals)) in
          let others : length (map zero_of (drop (length args) m.locals)) ≡ length m.locals - length args =
          length-map (drop (length args) m.locals) zero_of ∙ length-drop (length args) m.locals in
          let few = arguments_long (setting_of q) q.place argument b.is_value in
          let cells = b.cells number m e in
          (omega (arith, long, many, whole, others, few), omega (arith, cells))

  module _ (start : Frames)
      (there : (shared : Shared) → At (machine_seen (setting_of q) q.place start shared)
      ≡ begins (slice_get q.image.methods number) number value shared) (most : start.most ≡ r.cells.most) where
    -- it is at work
    pub works : BeginsFine → AskedClass → IsRunning start → IsAtWork q (running_on start r.blocks r.turns)
    works fine class runs = record {
      verified = b.verified;
      own = class q.image question b.verified b.asked;
      ground = b.ground;
      runs = runs;
      cells = subst (HasCells q.image) (sym most) b.cells;
      given = r.turns;
      fine = subst (Fine (setting_of q) r.turns (KindsIn q.image)) (sym (there (shared_by q r))) (fine_there fine);
    }

    -- and it ends as the definition has it
    pub ends_so : AreOver → Once → (result : Result (Option Cell) Trap) (after : Running)
        → RunsTo q (running_on start r.blocks r.turns) result after → (new : Frames) → new ≡ cleared after.cells
        → EndsAs q number argument r result (running_on new after.blocks after.turns)
    ends_so over once result after runs new none =
        let o = over q.image question number value b.verified b.asked b.found b.given in
        let long : after.cells.most ≡ r.cells.most = runs.most ∙ most in
        let idle : r.cells.frames ≡ [] = b.idle in
        record {
          called = ap ended o.over
              ∙ once (setting_of q) (most_steps q.image r.turns) runs.count beginning o.called
              (end_of q result (shared_by q after)) o.over
              (ap (steps (setting_of q) runs.count) (sym (there (shared_by q r))) ∙ runs.over);
          keeps = runs.keeps;
          cells = none ∙ (λ i. record { frames = sym idle i; most = long i });
        }
