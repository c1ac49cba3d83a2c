use Rattle.std.proofs.Common.{sym, ap, ◌∙◌}
use Rattle.sed_classes.specs.Faults.{first_of}
use Rattle.sed_check.specs.Bodies.{body_faults}
use Rattle.sed_check.specs.Checked.{faults}
use Rattle.sed_check.proofs.ElaboratedFaultless.{no_fault, unbroken}
use Rattle.sed_check.proofs.outcomes.judged.Goals as goal

pub program-requires-clause-unbroken : goal.program-requires-clause-unbroken
program-requires-clause-unbroken c =
    let units = c.args.units.now in
    let cycles = c.requires.asked.0 in
    unbroken
    units
    cycles
    c.requires.kits
    c.requires.spelled
    (no_fault
    (faults units cycles)
    (sym
    (c.earliest.ensures
    units
    cycles
    c.requires.declared
    (c.in_ok-bodies.ensures.first ∙ ap (λ u. first_of (body_faults u)) (c.in_ok-tables.ensures ∙ c.requires.same))
    c.requires.asked.1)
    ∙ c.in-None.is))

pub returns : goal.returns
returns c cycles asked =
    let units = c.args.units.now in
    let found = c.earliest.ensures
    units
    cycles
    c.requires.declared
    (c.in_ok-bodies.ensures.first ∙ ap (λ u. first_of (body_faults u)) (c.in_ok-tables.ensures ∙ c.requires.same))
    asked in
    (no_fault (faults units cycles) (sym found ∙ c.in-None.is), c.in_ok-program-in-None.ensures)
