use Rattle.std.proofs.Common.{◌∙◌}
use Rattle.sed_units.proofs.Tables.{looked}
use Rattle.sed_units.proofs.words.look_up.Goals as goal

pub returns : goal.returns
returns g c = c.beside.ensures ∙ looked c.args.table.now c.args.word.now
