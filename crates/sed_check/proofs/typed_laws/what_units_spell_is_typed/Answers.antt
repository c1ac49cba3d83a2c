use Rattle.sed_check.proofs.Whole.{typed}
use Rattle.sed_check.proofs.typed_laws.what_units_spell_is_typed.Goals as goal

pub returns : goal.returns
returns c = typed c.virtual_names_are_counted.ensures
