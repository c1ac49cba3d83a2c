use Rattle.std.proofs.Common.{List, ap, ◌∙◌}
use Rattle.sed_units.specs.declared.classes.Member.{Member}
use Rattle.sed_faults.specs.Faults.{least, said_from}
use Rattle.sed_classes.specs.Entries.{declaration_of}
use Rattle.sed_first_fault.specs.declared.counted.Counted.TheVariants.{Methods}
use Rattle.sed_first_fault.specs.Counts.{count_as, passing}
use Rattle.sed_first_fault.proofs.Limits.{as_methods}
use Rattle.sed_first_fault.proofs.counts.methods_fault.Goals as goal

pub returns : goal.returns
returns c =
    as_methods
    c.args.measured.now
    (declaration_of c.args.entry.now)
    c.passed_fault.result
    (c.passed_fault.ensures
    ∙ ap
    (λ (ms : List Member). least (said_from (passing 60 (count_as Methods c.args.measured.now c.args.entry.now.kit) 0 ms) 0 ms))
    c.as_slice.ensures)
