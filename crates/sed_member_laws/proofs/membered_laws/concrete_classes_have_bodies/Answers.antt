use Rattle.sed_member_laws.proofs.MethodsTyped.{has_bodies}
use Rattle.sed_member_laws.proofs.membered_laws.concrete_classes_have_bodies.Goals as goal

pub returns : goal.returns
returns c = has_bodies
