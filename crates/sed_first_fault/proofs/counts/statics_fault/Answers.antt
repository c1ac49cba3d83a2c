use Rattle.std.proofs.Common.{List, ap, ◌∙◌}
use Rattle.sed_units.specs.declared.classes.Member.{Member}
use Rattle.sed_faults.specs.Faults.{least, said_from}
use Rattle.sed_classes.specs.Entries.{declaration_of}
use Rattle.sed_first_fault.specs.declared.counted.Counted.TheVariants.{Statics}
use Rattle.sed_first_fault.specs.Counts.{count_as, passing}
use Rattle.sed_first_fault.proofs.Limits.{as_statics}
use Rattle.sed_first_fault.proofs.counts.statics_fault.Goals as goal

pub returns : goal.returns
returns c =
    as_statics
    c.args.measured.now
    c.args.class
    (declaration_of c.args.entry.now)
    c.args.before
    c.passed_fault.result
    c.requires
    (c.passed_fault.ensures
    ∙ ap
    (λ (ms : List Member). least (said_from
    (passing 65535 (count_as Statics c.args.measured.now c.args.entry.now.kit) c.args.before ms)
    0
    ms))
    c.as_slice.ensures)
