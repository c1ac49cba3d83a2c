use Rattle.std.proofs.Common.{List, ap, ◌∙◌}
use Rattle.std.specs.List.{sum_by}
use Rattle.sed_units.specs.declared.classes.Member.{Member}
use Rattle.sed_faults.specs.Faults.{least, said_from}
use Rattle.sed_classes.specs.Entries.{declaration_of}
use Rattle.sed_classes.specs.LimitRules.{own_sum}
use Rattle.sed_outline.specs.Rounds.{capped}
use Rattle.sed_first_fault.specs.Counts.{count_as, passing}
use Rattle.sed_first_fault.proofs.Limits.{as_summed}
use Rattle.sed_first_fault.proofs.counts.summed_fault.Goals as goal

pub returns : goal.returns
returns c =
    let units = c.args.measured.now in
    as_summed
    c.args.most
    c.args.counted
    units
    c.args.class
    (declaration_of c.args.entry.now)
    c.classes_sum-start.result
    c.passed_fault.result
    c.requires.most
    (c.classes_sum-start.ensures
    ∙ ap (λ places. capped (sum_by (own_sum (count_as c.args.counted units) units) places)) c.requires.bases)
    (c.passed_fault.ensures
    ∙ ap
    (λ (ms : List Member). least (said_from
    (passing c.args.most (count_as c.args.counted units c.args.entry.now.kit) c.classes_sum-start.result ms)
    0
    ms))
    c.as_slice.ensures)
