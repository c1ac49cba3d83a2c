use Rattle.std.proofs.Common.{length, rules}
use Rattle.sed_classes.specs.Declarations.{Declaration, all_classes}
use Rattle.sed_rules.proofs.Reading.{sum_more}
use Rattle.sed_rules.proofs.defines.member_count.Goals as goal

pub loop-class-preserved : goal.loop-class-preserved
loop-class-preserved c =
    sum_more
    (λ (d : Declaration). length d.class.members)
    c.loop-class.class
    (all_classes c.args.classes.now)
    c.loop-class.count
    c.member_len.result
    c.in_ok-count.count
    c.member_len.ensures
    (search rules)
    c.loop-class.invariant
