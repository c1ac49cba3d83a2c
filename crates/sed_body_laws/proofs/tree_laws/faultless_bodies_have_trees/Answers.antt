use Rattle.std.proofs.Common.{◌<◌, ◌≤◌, ◌+◌, ◌*◌, ◌^◌, List, arith, map}
use Rattle.sed_units.specs.Tree.{row, tree_size}
use Rattle.sed_faults.specs.declared.fault.Fault.{Fault}
use Rattle.sed_terms.specs.declared.judged.Judged.{Judged}
use Rattle.sed_terms.specs.declared.judged.Judged.TheVariants.{Sound, Unknown}
use Rattle.sed_terms.specs.Faults.{all_faults, IfSound}
use Rattle.sed_terms.specs.TermDepth.{declared_term}
use Rattle.sed_statements.specs.Methods.{judge_method}
use Rattle.sed_body_laws.specs.Bodies.{IsBodyTerm, context_of, outermost}
use Rattle.sed_body_laws.specs.Neat.{IsNeat, term_size}
use Rattle.sed_body_laws.specs.Trees.{HasTree}
use Rattle.sed_body_laws.proofs.Sound.{right_and_sound}
use Rattle.sed_body_laws.proofs.tree_laws.faultless_bodies_have_trees.Goals as goal

both : {A : Type 0} (P Q R : A → Type 0) (x : Judged A (List Fault)) → ((a : A) → P a → Q a → R a) → IfSound x P →
    IfSound x Q → IfSound x R
both P Q R (Sound a) f h g = f a h g
both P Q R (Unknown fs) f h g = tt

pub returns : goal.returns
returns c = λ program n e params m means head all short.
    right_and_sound
    (IsBodyTerm program m n all)
    (λ t. IsNeat t × (term_size t < 2 ^ 63))
    HasTree
    (judge_method all_faults n e params all)
    (λ t body neat. c.typed_terms_have_trees.ensures (context_of program m (map (λ d. d.kind) (declared_term t)))
    outermost t body.typed neat.0 neat.1)
    (c.judged_methods_are_typed.ensures.body program n e params m means head all)
    (both
    IsNeat
    (λ t. term_size t ≤ 6 * tree_size (row all) + 1)
    (λ t. IsNeat t × (term_size t < 2 ^ 63))
    (judge_method all_faults n e params all)
    (λ t neat size. (neat, omega (arith, size, short)))
    (c.judged_bodies_are_neat.ensures.neat all_faults n e params all)
    (c.judged_bodies_are_neat.ensures.size all_faults n e params all))
