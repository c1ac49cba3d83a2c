use Rattle.scode_mem.proofs.BlockLaws.{beside_new, new_block}
use Rattle.scode_mem.proofs.laws.new_blocks_leave_the_others.Goals as goal

pub returns-clause-new : goal.returns-clause-new
returns-clause-new c = new_block

pub returns-clause-others : goal.returns-clause-others
returns-clause-others c = beside_new
