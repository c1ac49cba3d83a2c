use Rattle.scode_mem.proofs.BlockLaws.{beside_gone, gone_block}
use Rattle.scode_mem.proofs.laws.removed_blocks_leave_the_others.Goals as goal

pub returns-clause-gone : goal.returns-clause-gone
returns-clause-gone c = gone_block

pub returns-clause-others : goal.returns-clause-others
returns-clause-others c = beside_gone
