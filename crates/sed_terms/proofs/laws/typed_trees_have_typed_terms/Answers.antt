use Rattle.sed_terms.proofs.Back.{expr_back, place_back}
use Rattle.sed_terms.proofs.StmtBack.{stmt_back}
use Rattle.sed_terms.proofs.laws.typed_trees_have_typed_terms.Goals as goal

pub returns : goal.returns
returns c = record {
  expression = λ x e h. expr_back x e h;
  place = λ x p h. place_back x p h;
  statement = λ x around s h. stmt_back x around s h;
}
