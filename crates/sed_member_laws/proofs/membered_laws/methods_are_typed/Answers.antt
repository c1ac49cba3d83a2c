use Rattle.sed_member_laws.proofs.MethodsTyped.{methods_typed}
use Rattle.sed_member_laws.proofs.membered_laws.methods_are_typed.Goals as goal

pub returns : goal.returns
returns c = methods_typed
