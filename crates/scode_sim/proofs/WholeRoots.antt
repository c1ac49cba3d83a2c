-- A root call of the image is that of the program, where it runs the same method and is over within its bound.
use Rattle.std.proofs.Common.{◌≡◌, ℕ, zero, suc, ◌+◌, Option, Some, None, Result, Ok, Err, slice_get, refl, sym, ap, ◌∙◌, arith}
use Rattle.sed_typed.specs.declared.program.Program.{Program}
use Rattle.sed_typed.specs.Typed.{Typed}
use Rattle.sed_engine.specs.Asked.{Asked}
use Rattle.sed_engine.specs.Code.{Question}
use Rattle.sed_engine.specs.Expressions.{Calls, Called}
use Rattle.sed_engine.specs.Program.{code_of}
use Rattle.sed_engine.specs.Root.{root, root_end, root_method, start_root, argument_of, root_frame, calls_with, most_frames}
use Rattle.sed_engine.specs.State.{Shared}
use Rattle.sed_engine.specs.Stops.{Stop}
use Rattle.sed_engine.specs.Values.{Val}
use Rattle.scode_image.specs.declared.image.Image.{Image}
use Rattle.scode_code.specs.Fields.{Setting}
use Rattle.scode_code.specs.Machine.{Point, At as AtWork, Over}
use Rattle.scode_code.specs.Root.{begins, ended, most_steps}
use Rattle.scode_code.specs.Root as machine
use Rattle.scode_code.specs.Steps.{steps}
use Rattle.scode_emit.specs.Site.{Layout}
use Rattle.scode_sim.specs.Made.{IsMade}
use Rattle.scode_sim.specs.Reaches.{IsOver, begun_with, setting_of}
use Rattle.scode_sim.proofs.Bodies.{Stand}
use Rattle.scode_sim.proofs.Comes.{steps-add}
use Rattle.scode_sim.proofs.Roots.{root_reaches}

-- what is over stays
steps_over : (w : Setting) (n : ℕ) (c : Called) → steps w n (Over c) ≡ Over c
unfolding steps
steps_over w zero c = refl
steps_over w (suc n) c = steps_over w n c

over_same : (c d : Called) → Over c ≡ Over d → c ≡ d
over_same c d e = ap come e
  where
    come : Point → Called
    come (Over c) = c
    come (AtWork m) = c

-- a machine ends in one way
pub one_end : (w : Setting) (p : Point) (m n : ℕ) (c d : Called) → steps w m p ≡ Over c → steps w n p ≡ Over d → c ≡ d
one_end w p m n c d e f =
    over_same c d
    (sym (steps_over w n c) ∙ ap (steps w n) (sym e) ∙ sym (steps-add w m n p) ∙ ap (λ k. steps w k p) (let z : m + n ≡ n + m = omega arith in z)
    ∙ steps-add w n m p ∙ ap (steps w m) f ∙ steps_over w m d)

module _ (program : Program) (typed : Typed program) (layout : Layout) (image : Image) (made : IsMade program layout image) (stand : Stand) (q : Question) (asked : Asked (code_of program) q) where
  abbrev shared : Shared
  shared = begun_with q

  abbrev w : Setting
  w = setting_of image q

  abbrev calls : Calls
  calls = calls_with program q.class most_frames

  run_same : (over : (number : ℕ) (value : Val) → root_method program q.class q.which ≡ Ok (Some number) → argument_of q.argument ≡ Ok value → IsOver (steps w (most_steps image q.turns) (begins (slice_get image.methods number) number value shared))) →
      (r : Result (Option ℕ) Stop) → root_method program q.class q.which ≡ r → (u : Result Val Stop) → argument_of q.argument ≡ u → machine.start_root w r u shared ≡ start_root calls r u shared
  run_same over (Ok None) e (Ok v) f = refl
  run_same over (Ok (Some number)) e (Ok v) f =
      let p = begins (slice_get image.methods number) number v shared in
      let o = over number v e f in
      let r = root_reaches program typed layout image made stand q asked number v e f in
      ap ended o.is ∙ one_end w p (most_steps image q.turns) r.count o.comes_to (calls number (root_frame v) shared) o.is r.is
  run_same over (Ok None) e (Err stop) f = refl
  run_same over (Ok (Some number)) e (Err stop) f = refl
  run_same over (Err stop) e (Ok v) f = refl
  run_same over (Err stop) e (Err other) f = refl

  pub roots_same : machine.root_method image q.class q.which ≡ root_method program q.class q.which →
      ((number : ℕ) (value : Val) → root_method program q.class q.which ≡ Ok (Some number) → argument_of q.argument ≡ Ok value → IsOver (steps w (most_steps image q.turns) (begins (slice_get image.methods number) number value shared))) →
      machine.root image q.class q.contents q.statics q.which q.argument q.turns q.moment ≡ root program q.class q.contents q.statics q.which q.argument q.turns q.moment
  roots_same same over =
      ap (λ r. root_end (machine.start_root w r (argument_of q.argument) shared)) same
      ∙ ap root_end (run_same over (root_method program q.class q.which) refl (argument_of q.argument) refl)
