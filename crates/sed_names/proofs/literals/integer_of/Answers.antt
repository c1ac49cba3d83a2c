use Rattle.sed_names.proofs.Digits.{integer_is}
use Rattle.sed_names.proofs.literals.integer_of.Goals as goal

pub returns : goal.returns
returns c = integer_is c.args.bytes.now c.integer_value.result c.integer_value.ensures.one
