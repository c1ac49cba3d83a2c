use Rattle.std.proofs.Common.{◌≡◌, true}
use Rattle.sed_terms.specs.Sorts.{is_value}
use Rattle.sed_terms.specs.Term.{Term}
use Rattle.sed_body_rules.specs.Pairs.{right_sound}
use Rattle.sed_bodies.proofs.member_calls.row_and_argument.Goals as goal

pub returns-clause-value : goal.returns-clause-value
returns-clause-value c = right_sound (λ (t : Term). is_value t ≡ true) c.args.xs c.args.x c.paired.result c.paired.ensures c.requires
