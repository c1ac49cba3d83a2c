use Rattle.std.proofs.Common.{arith, sym}
use Rattle.sed_faults.proofs.Rows.{said_step}
use Rattle.sed_classes.specs.Entries.{declaration_of}
use Rattle.sed_classes.specs.Faults.{member_form_faults}
use Rattle.sed_rules.proofs.class.members_fault.Goals as goal

pub loop-number-preserved : goal.loop-number-preserved
loop-number-preserved c =
    said_step
    (member_form_faults c.args.based.now c.args.class (declaration_of c.args.entry.now))
    c.loop-number.number
    c.as_slice-members.result.now
    c.index-members-number.result
    c.loop-number.first
    c.member_fault-fault.result
    c.joined-first.result
    (omega arith)
    (sym c.index-members-number.is)
    c.member_fault-fault.ensures
    c.joined-first.ensures.lesser
    c.loop-number.invariant
