use Rattle.std.proofs.Common.{arith, sym}
use Rattle.sed_first_fault.specs.Counts.{count_as}
use Rattle.sed_first_fault.proofs.Capped.{sum_step}
use Rattle.sed_first_fault.proofs.passed.members_sum.Goals as goal

pub loop-member-preserved : goal.loop-member-preserved
loop-member-preserved c =
    sum_step
    (count_as c.args.counted c.args.measured.now c.args.kit)
    c.loop-member.member-index
    c.args.members.now
    c.member-item.result
    c.loop-member.sum
    c.add-sum.result
    c.count_of.result
    (omega arith)
    (sym c.member-item.is)
    c.count_of.ensures
    c.add-sum.ensures
    c.loop-member.invariant
