-- An instruction that is a known one.
use Rattle.std.proofs.Common.{◌≡◌, Result, sym, subst}
use Rattle.sed_engine.specs.declared.trap.Trap.{Trap}
use Rattle.scode_ops.specs.declared.op.Op.{Op}
use Rattle.scode_image.specs.declared.image.Image.{Image}
use Rattle.scode_code.specs.Steps.{effect}
use Rattle.scode_mem.specs.Blocks.{Held}
use Rattle.scode_cells.specs.Frames.{Frames}
use Rattle.scode_access.specs.Within.{DoesIn, DoesInEach, MayDoIn, MayDoInSome}

module _ (image : Image) (o i : Op) (is : o ≡ i) where
  pub may_one : (s : Frames) (h : Held) → MayDoIn (λ w. effect w o) image s h → MayDoIn (λ w. effect w i) image s h
  may_one s h may = subst (λ (x : Op). MayDoIn (λ w. effect w x) image s h) is may

  pub may_some : (s : Frames) (h : Held) → MayDoIn (λ w. effect w o) image s h → MayDoInSome (λ w. effect w i) s h
  may_some s h may = (image, may_one s h may)

  pub does_one : (s new : Frames) (h after : Held) (r : Result (Unit {0}) Trap)
      → DoesIn (λ w. effect w i) image s h r new after → DoesIn (λ w. effect w o) image s h r new after
  does_one s new h after r does = subst (λ (x : Op). DoesIn (λ w. effect w x) image s h r new after) (sym is) does

  pub does_each : (s new : Frames) (h after : Held) (r : Result (Unit {0}) Trap)
      → DoesInEach (λ w. effect w i) s h r new after → DoesIn (λ w. effect w o) image s h r new after
  does_each s new h after r does = does_one s new h after r (does image)
