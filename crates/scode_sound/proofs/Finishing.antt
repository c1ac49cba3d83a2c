-- From a fine point a machine is over within its potential.
use Rattle.std.proofs.Common.{◌≡◌, ◌≤◌, ℕ, zero, suc, arith}
use Rattle.sed_engine.specs.Expressions.{Called}
use Rattle.scode_code.proofs.Going.{steps-over}
use Rattle.scode_code.specs.Fields.{Setting}
use Rattle.scode_code.specs.Machine.{Point, At as AtWork, Over}
use Rattle.scode_code.specs.Steps.{step, steps}
use Rattle.scode_code.specs.Verified.{IsVerifiedBy, Shapes}
use Rattle.scode_sound.specs.Cells.{Concrete}
use Rattle.scode_sound.specs.Fine.{Fine, FineOver}
use Rattle.scode_sound.specs.Potential.{potential}
use Rattle.scode_sound.specs.Over.{IsNotStuck, IsOverWithin}
use Rattle.scode_sound.proofs.Rules.{Tables}
use Rattle.scode_sound.proofs.Running.{step_better}

module _ (w : Setting) (is : Tables w.image) (own : Concrete w.image w.class) (given : ℕ) (shapes : Shapes)
    (verified : IsVerifiedBy w.image shapes) where
  -- it is over, and what it left is fine
  pub record Finished (p : Point) : Type 0 where
    pub called : Called
    pub over : p ≡ Over called
    pub fine : FineOver w given called

  pub finishes : (n : ℕ) (p : Point) → Fine w given shapes p → potential w p ≤ n → Finished (steps w n p)
  unfolding steps
  finishes n (Over c) fine few = record { called = c; over = steps-over w n c; fine = fine }
  finishes zero (AtWork x) fine few =
      let b = step_better w is own given shapes verified x fine in
      let less = b.less in
      absurd (omega (arith, less, few))
  finishes (suc n) (AtWork x) fine few =
      let b = step_better w is own given shapes verified x fine in
      let less = b.less in
      finishes n (step w (AtWork x)) b.fine (omega (arith, less, few))

  pub stays_fine : (n : ℕ) (p : Point) → Fine w given shapes p → Fine w given shapes (steps w n p)
  unfolding steps
  stays_fine zero p fine = fine
  stays_fine (suc n) (Over c) fine = stays_fine n (Over c) fine
  stays_fine (suc n) (AtWork x) fine =
      stays_fine n (step w (AtWork x)) (step_better w is own given shapes verified x fine).fine

  not_stuck : (p : Point) → Fine w given shapes p → IsNotStuck p
  not_stuck (AtWork x) fine = tt
  not_stuck (Over c) fine = fine.typed

  pub over_within : (n : ℕ) (p : Point) → Fine w given shapes p → potential w p ≤ n → IsOverWithin w n p
  over_within n p fine few =
      let f = finishes n p fine few in
      record {
        called = f.called;
        over = f.over;
        typed = f.fine.typed;
        never_stuck = λ k. not_stuck (steps w k p) (stays_fine k p fine);
      }
