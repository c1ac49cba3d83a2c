use Rattle.comp_tree.proofs.PassingNone.{within}
use Rattle.comp_tree.proofs.WithinLimits.{tree_of}
use Rattle.comp_tree.proofs.laws.what_is_whole_passes_no_limit.Goals as goal

pub returns-clause-within : goal.returns-clause-within
returns-clause-within c = within

pub returns-clause-tree : goal.returns-clause-tree
returns-clause-tree c = tree_of
