use Rattle.std.proofs.Common.{sym}
use Rattle.sed_terms.proofs.Again.{kind_again, place_kind_again, expr_again, place_again}
use Rattle.sed_terms.proofs.StmtAgain.{stmt_again}
use Rattle.sed_terms.proofs.laws.typed_terms_give_typed_trees.Goals as goal

pub returns : goal.returns
returns c = record {
  kind = λ e. sym (kind_again e);
  place_kind = λ p. sym (place_kind_again p);
  expression = λ x e h. expr_again x e h;
  place = λ x p h. place_again x p h;
  statement = λ x around s h. stmt_again x around s h;
}
