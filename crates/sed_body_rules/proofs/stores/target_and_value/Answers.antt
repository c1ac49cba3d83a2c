use Rattle.std.proofs.Common.{◌≡◌, true}
use Rattle.sed_terms.specs.Sorts.{is_place}
use Rattle.sed_terms.specs.Term.{Term}
use Rattle.sed_body_rules.specs.Pairs.{left_sound}
use Rattle.sed_body_rules.proofs.stores.target_and_value.Goals as goal

pub returns-clause-place : goal.returns-clause-place
returns-clause-place c = left_sound (λ (t : Term). is_place t ≡ true) c.args.x c.args.y c.paired.result c.paired.ensures c.requires
