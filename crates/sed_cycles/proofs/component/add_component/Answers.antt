use Rattle.std.proofs.Common.{refl}
use Rattle.sed_cycles.proofs.Executing.{there}
use Rattle.sed_cycles.proofs.component.add_component.Goals as goal

pub returns-in-Ok-clause-begun : goal.returns-in-Ok-clause-begun
returns-in-Ok-clause-begun g c = record {
  object = there _ _ _ _ c.in-Ok.ensures.added;
  statics_are = c.add.ensures.statics;
  class = refl;
  fault = refl;
}
