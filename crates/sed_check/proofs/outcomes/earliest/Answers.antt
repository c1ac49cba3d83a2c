use Rattle.std.proofs.Common.{◌++◌}
use Rattle.sed_first_fault.specs.Faults.{cycle_faults, declared_faults}
use Rattle.sed_check.specs.Bodies.{body_faults}
use Rattle.sed_check.proofs.outcomes.earliest.Goals as goal

pub returns : goal.returns
returns c units cycles d b k =
    c.first-2.ensures
    (declared_faults units ++ body_faults units)
    (cycle_faults units cycles)
    (c.first.ensures (declared_faults units) (body_faults units) d b)
    k
