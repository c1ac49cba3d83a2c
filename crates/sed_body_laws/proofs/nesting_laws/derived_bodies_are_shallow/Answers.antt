use Rattle.sed_body_laws.proofs.Units.{bodies_are}
use Rattle.sed_body_laws.proofs.nesting_laws.derived_bodies_are_shallow.Goals as goal

-- src/laws.rt:9:1
pub returns : goal.returns
returns c = bodies_are
