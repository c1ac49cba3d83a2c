use Rattle.std.proofs.Common.{length, sym, ◌∙◌, arith}
use Rattle.scode_tables.proofs.Climbing.{begins, ends, found, goes_up, over}
use Rattle.scode_tables.proofs.lookup.is_at_or_above.Goals as goal

pub loop-init : goal.loop-init
loop-init c = begins c.args.image.now c.args.above c.args.class

pub returns-then-at-above : goal.returns-then-at-above
returns-then-at-above c =
    sym (found c.args.image.now c.args.above (length c.args.image.now.classes) c.loop.counter c.loop.at (omega arith)
    c.if-at-above.true) ∙ c.loop.invariant

pub returns-in-None : goal.returns-in-None
returns-in-None c =
    sym (ends c.args.image.now c.args.above (length c.args.image.now.classes) c.loop.counter c.loop.at (omega arith)
    c.if-at-above.false (sym c.base_of.ensures ∙ c.in-None.is)) ∙ c.loop.invariant

pub loop-preserved : goal.loop-preserved
loop-preserved c =
    sym (goes_up c.args.image.now c.args.above (length c.args.image.now.classes) c.loop.counter c.loop.at c.in-Some.base
    (omega arith) c.if-at-above.false (sym c.base_of.ensures ∙ c.in-Some.is)) ∙ c.loop.invariant

pub returns : goal.returns
returns c =
    sym (over c.args.image.now c.args.above (length c.args.image.now.classes) c.loop.counter c.loop.at (omega arith))
    ∙ c.loop.invariant
