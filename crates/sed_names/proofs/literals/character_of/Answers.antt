use Rattle.sed_names.proofs.Characters.{character_is}
use Rattle.sed_names.proofs.literals.character_of.Goals as goal

pub returns : goal.returns
returns c = character_is c.args.bytes.now c.character_value.result c.character_value.ensures
