use Rattle.std.proofs.Common.{◌∙◌, ap}
use Rattle.sed_engine.specs.Program as source
use Rattle.scode_compile.proofs.compiled.Compiled.into_verified.Goals as goal

pub returns : goal.returns
returns c = record { means = c.self.invariant.means ∙ ap source.meaning_of c.self.view_is }
