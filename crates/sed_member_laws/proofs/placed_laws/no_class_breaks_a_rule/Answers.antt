use Rattle.sed_member_laws.proofs.Whole.{are_free}
use Rattle.sed_member_laws.proofs.placed_laws.no_class_breaks_a_rule.Goals as goal

pub returns : goal.returns
returns c = are_free
