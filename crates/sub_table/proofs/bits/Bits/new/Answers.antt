use Rattle.sub_table.proofs.BitLemmas.{no_member}
use Rattle.sub_table.proofs.bits.Bits.new.Goals as goal

pub returns-clause-none : goal.returns-clause-none
returns-clause-none c = no_member c.in_ok-words.words.items 1024 c.in_ok-words.ensures
