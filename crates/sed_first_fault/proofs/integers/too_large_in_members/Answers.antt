use Rattle.std.proofs.Common.{arith, sym}
use Rattle.sed_faults.proofs.Rows.{listed_step}
use Rattle.sed_first_fault.specs.Integers.{too_large_in_member}
use Rattle.sed_first_fault.proofs.integers.too_large_in_members.Goals as goal

pub loop-member-preserved : goal.loop-member-preserved
loop-member-preserved c =
    listed_step
    too_large_in_member
    c.loop-member.member-index
    c.args.members.now
    c.member-item.result
    c.loop-member.first
    c.too_large_in_member.result
    c.joined-first.result
    (omega arith)
    (sym c.member-item.is)
    c.too_large_in_member.ensures
    c.joined-first.ensures.lesser
    c.loop-member.invariant
