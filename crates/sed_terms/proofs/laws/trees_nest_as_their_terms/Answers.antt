use Rattle.std.proofs.Common.{sym}
use Rattle.sed_terms.proofs.Depths.{depth_again, body_depth_again, declared_again}
use Rattle.sed_terms.proofs.laws.trees_nest_as_their_terms.Goals as goal

pub returns : goal.returns
returns c = record {
  expression = λ e. sym (depth_again e);
  body = λ s. sym (body_depth_again s);
  locals = λ s. sym (declared_again s);
}
