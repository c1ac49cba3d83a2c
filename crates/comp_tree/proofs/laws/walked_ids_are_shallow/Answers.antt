use Rattle.comp_tree.proofs.WalkedTrees.{shallow}
use Rattle.comp_tree.proofs.laws.walked_ids_are_shallow.Goals as goal

pub returns : goal.returns
returns c = λ all root names. shallow all names root
