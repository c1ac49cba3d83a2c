use Rattle.std.proofs.Common.{◌∙◌, ap, sym}
use Rattle.sed_typed.specs.Initial.{initial_statics}
use Rattle.node_rows.proofs.kits.walker_of.Goals as goal

-- the statics of a new walker are those with which its program begins
pub returns-in-Ok-clause-statics : goal.returns-in-Ok-clause-statics
returns-in-Ok-clause-statics c = c.in-Ok.ensures.statics ∙ ap initial_statics (sym c.in-Ok.ensures.program)
