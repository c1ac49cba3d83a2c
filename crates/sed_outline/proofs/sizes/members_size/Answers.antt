use Rattle.std.proofs.Common.{arith, sym}
use Rattle.sed_classes.specs.Objects.{data_of}
use Rattle.sed_outline.specs.Rounds.{item}
use Rattle.sed_outline.proofs.Measures.{sum_step}
use Rattle.sed_outline.proofs.sizes.members_size.Goals as goal

pub loop-member-preserved : goal.loop-member-preserved
loop-member-preserved c =
    sum_step
    (data_of c.args.classes.now (item 0 c.args.sizes.now) c.args.kit)
    c.loop-member.member-index
    c.args.members.now
    c.member-item.result
    c.loop-member.sum
    c.add-sum.result
    c.data_of.result
    (omega arith)
    (sym c.member-item.is)
    c.data_of.ensures
    c.add-sum.ensures
    c.loop-member.invariant
