use Rattle.sed_body_laws.proofs.NeatStatements.{method_neat, method_size}
use Rattle.sed_body_laws.proofs.tree_laws.judged_bodies_are_neat.Goals as goal

pub returns-clause-neat : goal.returns-clause-neat
returns-clause-neat g c = method_neat

pub returns-clause-size : goal.returns-clause-size
returns-clause-size g c = method_size
