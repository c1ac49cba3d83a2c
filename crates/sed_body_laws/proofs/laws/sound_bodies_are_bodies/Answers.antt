use Rattle.sed_body_laws.proofs.Bodies.{sound_body}
use Rattle.sed_body_laws.proofs.laws.sound_bodies_are_bodies.Goals as goal

pub returns : goal.returns
returns c =
    sound_body c.judged_methods_are_typed.ensures.body c.typed_terms_give_typed_trees.ensures.statement
    c.trees_nest_as_their_terms.ensures.locals
