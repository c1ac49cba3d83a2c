use Rattle.std.proofs.Common.{sym, ◌∙◌, arith, reverse}
use Rattle.scode_rules.proofs.Meeting.{meets_all, meets_not_at, meets_on_at}
use Rattle.scode_rules.proofs.stack.params_meet.Goals as goal

pub returns-then-not-meets_at : goal.returns-then-not-meets_at
returns-then-not-meets_at c =
    sym (meets_not_at c.args.image.now c.args.params.now (reverse c.args.stack.now) c.loop-depth.depth _ c.loop-depth-test.true
    (sym c.meets_at.ensures ∙ c.if-not-meets_at.true))
    ∙ c.loop-depth.invariant

pub loop-depth-preserved : goal.loop-depth-preserved
loop-depth-preserved c =
    sym (meets_on_at c.args.image.now c.args.params.now (reverse c.args.stack.now) c.loop-depth.depth _ c.loop-depth-test.true
    (sym c.meets_at.ensures ∙ c.if-not-meets_at.false))
    ∙ c.loop-depth.invariant

pub returns : goal.returns
returns c =
    sym (meets_all c.args.image.now c.args.params.now (reverse c.args.stack.now) c.loop-depth.depth (omega arith))
    ∙ c.loop-depth.invariant
