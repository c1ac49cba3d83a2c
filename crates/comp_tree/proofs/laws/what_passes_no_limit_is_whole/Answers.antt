use Rattle.comp_tree.proofs.WithinLimits.{is_tree, is_whole}
use Rattle.comp_tree.proofs.laws.what_passes_no_limit_is_whole.Goals as goal

pub returns-clause-tree : goal.returns-clause-tree
returns-clause-tree c = is_tree

pub returns-clause-whole : goal.returns-clause-whole
returns-clause-whole c = is_whole
