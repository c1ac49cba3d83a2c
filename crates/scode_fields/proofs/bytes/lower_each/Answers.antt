use Rattle.scode_fields.proofs.Lowering.{lowers_more}
use Rattle.scode_fields.proofs.bytes.lower_each.Goals as goal

pub loop-i-preserved : goal.loop-i-preserved
loop-i-preserved c =
    lowers_more c.args.row.now.items c.loop-i.row.items c.lower.new.row.items c.args.mosts.now c.args.from c.loop-i.i
    c.loop-i-test.true c.requires c.loop-i.invariant c.lower.ensures
