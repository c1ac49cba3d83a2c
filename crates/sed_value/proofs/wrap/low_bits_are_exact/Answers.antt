use Rattle.sed_value.proofs.WrapLemmas.{low_bits-below, low_bits-equal, low_bits-only}
use Rattle.sed_value.proofs.wrap.low_bits_are_exact.Goals as goal

pub returns-clause-fit : goal.returns-clause-fit
returns-clause-fit c = low_bits-below

pub returns-clause-equal : goal.returns-clause-equal
returns-clause-equal c = low_bits-equal

pub returns-clause-only : goal.returns-clause-only
returns-clause-only c = low_bits-only
