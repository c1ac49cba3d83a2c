-- The 1 that `++` adds.
use Rattle.std.specs.Prelude.{pos}
use Rattle.sed_typed.specs.declared.operators.Width.{Width}
use Rattle.sed_typed.specs.declared.operators.Width.TheVariants as width
use Rattle.sed_terms.specs.declared.sign.Sign.TheVariants as sign
use Rattle.sed_terms.specs.Term.{Term, leaf}

abbrev pub one_in : Width → Term
one_in width.Int = leaf (sign.Int (pos 1))
one_in width.Long = leaf (sign.Long (pos 1))
