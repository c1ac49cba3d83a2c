use Rattle.scode_emit.specs.Method.{site_of}
use Rattle.scode_entries.proofs.Tall.{body_within}
use Rattle.scode_entries.proofs.laws.stacks_are_no_longer_than_code.Goals as goal

pub returns : goal.returns
returns c program layout m = body_within (site_of program layout m) m.result m.body
