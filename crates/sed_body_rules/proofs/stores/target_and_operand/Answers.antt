use Rattle.std.proofs.Common.{◌≡◌, true}
use Rattle.sed_terms.specs.Sorts.{is_place, is_value}
use Rattle.sed_terms.specs.Term.{Term}
use Rattle.sed_body_rules.specs.Pairs.{both_sound}
use Rattle.sed_body_rules.proofs.stores.target_and_operand.Goals as goal

pub returns-clause-parts : goal.returns-clause-parts
returns-clause-parts c =
    both_sound (λ (t : Term). is_place t ≡ true) (λ (t : Term). is_value t ≡ true) c.args.x c.args.y c.paired.result c.paired.ensures c.requires.place c.requires.value
