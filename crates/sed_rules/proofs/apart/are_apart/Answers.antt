use Rattle.sed_rules.proofs.Rising.{rising_apart, rising_end}
use Rattle.sed_rules.proofs.apart.are_apart.Goals as goal

pub returns : goal.returns
returns c = λ e.
    rising_apart
    0
    c.args.members.now
    (c.loop-member.invariant
    (rising_end c.args.members.now c.loop-member.member-index c.loop-member.end c.loop-member-test.false))
