use Rattle.sed_member_laws.proofs.FieldsTyped.{statics_typed}
use Rattle.sed_member_laws.proofs.membered_laws.statics_are_typed.Goals as goal

pub returns : goal.returns
returns c = statics_typed
