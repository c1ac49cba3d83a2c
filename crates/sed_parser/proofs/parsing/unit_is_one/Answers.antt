use Rattle.sed_parser.proofs.Units.{unit_is_one}
use Rattle.sed_parser.proofs.parsing.unit_is_one.Goals as goal

pub returns : goal.returns
returns c = unit_is_one
