use Rattle.sed_terms.proofs.BareTerms.{same_expr, same_place, same_stmt}
use Rattle.sed_terms.proofs.OneTree.{one_tree, one_place, one_stmt}
use Rattle.sed_terms.proofs.laws.terms_have_one_tree.Goals as goal

pub returns : goal.returns
returns c = record {
  expression = one_tree;
  place = one_place;
  statement = one_stmt;
  same_expression = same_expr;
  same_place = same_place;
  same_statement = same_stmt;
}
