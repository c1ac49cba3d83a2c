use Rattle.comp_tree.proofs.WalkedTrees.{walked_each, walked_once}
use Rattle.comp_tree.proofs.laws.trees_are_walked_once.Goals as goal

pub returns-clause-reached : goal.returns-clause-reached
returns-clause-reached c = walked_each

pub returns-clause-once : goal.returns-clause-once
returns-clause-once c = walked_once
