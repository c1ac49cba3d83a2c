use Rattle.std.proofs.Common.{refl, sym, ◌∙◌, arith}
use Rattle.scode_tables.proofs.Rests.{ascend_ends, ascend_fails, ascend_goes_on}
use Rattle.scode_tables.proofs.known.places_ascend.Goals as goal

pub loop-entry-init : goal.loop-entry-init
loop-entry-init c = refl

pub returns-then-from-least : goal.returns-then-from-least
returns-then-from-least c =
    sym (ascend_fails c.loop-entry.entry-index c.loop-entry.least c.args.entries.now c.entry-item.result
    c.loop-entry-test.true c.entry-item.is (omega arith)) ∙ c.loop-entry.invariant

pub loop-entry-preserved : goal.loop-entry-preserved
loop-entry-preserved c =
    rw c.from-least.ensures
    (sym (ascend_goes_on c.loop-entry.entry-index c.loop-entry.least c.args.entries.now c.entry-item.result
    c.loop-entry-test.true c.entry-item.is (omega arith)) ∙ c.loop-entry.invariant)

pub returns : goal.returns
returns c =
    sym (ascend_ends c.loop-entry.entry-index c.loop-entry.least c.args.entries.now (omega arith)) ∙ c.loop-entry.invariant
