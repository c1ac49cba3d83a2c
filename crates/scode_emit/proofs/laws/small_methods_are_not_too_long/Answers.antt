use Rattle.scode_emit.specs.Method.{site_of}
use Rattle.scode_emit.proofs.Few.{body_few}
use Rattle.scode_emit.proofs.laws.small_methods_are_not_too_long.Goals as goal

pub returns : goal.returns
returns c program layout m few = body_few (site_of program layout m) m.result m.body few
