use Rattle.std.proofs.Common.{◌≡◌, true}
use Rattle.sed_terms.specs.Forms.{has_elements}
use Rattle.sed_terms.specs.Sorts.{is_value, sort_of}
use Rattle.sed_terms.specs.Term.{Term}
use Rattle.sed_body_rules.specs.Pairs.{both_sound}
use Rattle.sed_body_rules.proofs.operands.array_and_index.Goals as goal

pub returns-clause-parts : goal.returns-clause-parts
returns-clause-parts c =
    both_sound (λ (t : Term). has_elements (sort_of t) ≡ true) (λ (t : Term). is_value t ≡ true) c.args.x c.args.y c.paired.result c.paired.ensures c.requires.left c.requires.right
