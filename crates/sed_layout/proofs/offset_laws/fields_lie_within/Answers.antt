use Rattle.sed_layout.proofs.Apart.{field_within}
use Rattle.sed_layout.proofs.offset_laws.fields_lie_within.Goals as goal

pub returns : goal.returns
returns c = field_within
