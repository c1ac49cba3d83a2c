use Rattle.std.proofs.Common.{◌≡◌, true}
use Rattle.sed_terms.specs.Sorts.{is_value}
use Rattle.sed_terms.specs.Term.{Term}
use Rattle.sed_body_rules.specs.Pairs.{both_sound}
use Rattle.sed_body_rules.proofs.wants.both_values.Goals as goal

pub returns-clause-values : goal.returns-clause-values
returns-clause-values c =
    both_sound (λ (t : Term). is_value t ≡ true) (λ (t : Term). is_value t ≡ true) c.args.x c.args.y c.paired.result c.paired.ensures c.requires.left c.requires.right
