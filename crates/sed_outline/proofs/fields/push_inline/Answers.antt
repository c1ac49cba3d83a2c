use Rattle.std.proofs.Common.{arith, sym}
use Rattle.sed_outline.specs.Rounds.{inline_of}
use Rattle.sed_value.proofs.Found.{found_step}
use Rattle.sed_outline.proofs.fields.push_inline.Goals as goal

pub loop-member-preserved : goal.loop-member-preserved
loop-member-preserved c =
    found_step
    (inline_of c.args.classes.now c.args.kit)
    c.loop-member.member-index
    c.args.members.now
    c.member-item.result
    c.args.into.now.items
    c.loop-member.into.items
    c.push_found.new.into.items
    c.inline_of.result
    (omega arith)
    (sym c.member-item.is)
    c.inline_of.ensures
    c.in_ok-push_found.ensures
    c.loop-member.invariant
