use Rattle.std.proofs.Common.{ℕ, sym, subst}
use Rattle.std.specs.Int.{bytes_high_first}
use Rattle.byteorder.specs.Numbers.{length-bytes_high_first}
use Rattle.scode_mem.specs.Blocks.{HasBytes}
use Rattle.scode_mem.proofs.BlockLaws.{bytes_there, other_block, other_range, same_classes, same_sizes}
use Rattle.scode_mem.proofs.laws.all_else_stays.Goals as goal

pub returns-clause-ranges : goal.returns-clause-ranges
returns-clause-ranges c = λ h b at width number from size has other apart. other_range h b at width number has from size apart

pub returns-clause-blocks : goal.returns-clause-blocks
returns-clause-blocks c = λ h b other at width number ne. other_block h b other at (bytes_high_first width number) ne

pub returns-clause-there : goal.returns-clause-there
returns-clause-there c = bytes_there

pub returns-clause-classes : goal.returns-clause-classes
returns-clause-classes c = λ h b at width number place. same_classes h b at (bytes_high_first width number) place

pub returns-clause-sizes : goal.returns-clause-sizes
returns-clause-sizes c = λ h b at width number has.
    same_sizes h b at (bytes_high_first width number) (subst (λ (n : ℕ). HasBytes h b at n) (sym (length-bytes_high_first width number)) has)
