use Rattle.sed_body_laws.proofs.StmtTrees.{typed_tree}
use Rattle.sed_body_laws.proofs.tree_laws.typed_terms_have_trees.Goals as goal

pub returns : goal.returns
returns c = typed_tree
