use Rattle.std.proofs.Common.{◌≡◌, true}
use Rattle.sed_terms.specs.Sorts.{is_value}
use Rattle.sed_terms.specs.Term.{Term}
use Rattle.sed_body_rules.specs.Pairs.{both_sound}
use Rattle.sed_body_rules.proofs.choices.test_and_branches.Goals as goal

pub returns-clause-values : goal.returns-clause-values
returns-clause-values c =
    both_sound (λ (t : Term). is_value t ≡ true) (λ (p : Term × Term). (is_value p.0 ≡ true) × (is_value p.1 ≡ true))
    c.args.t c.args.both c.paired.result c.paired.ensures c.requires.test c.requires.branches
