use Rattle.std.proofs.lemmas.Int.{SFits-int_wrap}
use Rattle.sed_value.proofs.WrapLemmas.{wrap-equal, wrap-only}
use Rattle.sed_value.proofs.wrap.wrap_is_exact.Goals as goal

pub returns-clause-fits : goal.returns-clause-fits
returns-clause-fits c = SFits-int_wrap

pub returns-clause-equal : goal.returns-clause-equal
returns-clause-equal c = wrap-equal

pub returns-clause-only : goal.returns-clause-only
returns-clause-only c = wrap-only
