use Rattle.std.proofs.Common.{sym, ◌∙◌}
use Rattle.sed_first_fault.specs.Faults.{cycle_faults, declared_faults}
use Rattle.sed_check.proofs.Later.{settled_first}
use Rattle.sed_check.proofs.settling.settled.Goals as goal

pub returns-then-settles : goal.returns-then-settles
returns-then-settles c cycles d k =
    let units = c.args.classes.now in
    settled_first
    units
    cycles
    c.in-Some.fault
    (sym (c.first.ensures (declared_faults units) (cycle_faults units cycles) d k) ∙ c.in-Some.is)
    (sym c.settles.ensures ∙ c.if-settles.true)
