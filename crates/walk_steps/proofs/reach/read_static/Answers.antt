use Rattle.std.proofs.Common.{Ok}
use Rattle.sed_engine.specs.Places.{static_spot}
use Rattle.walk_steps.proofs.reach.read_static.Goals as goal

pub returns : goal.returns
returns c = λ locals. c.read.ensures locals (Ok (static_spot c.args.number)) c.static_field-found.ensures
