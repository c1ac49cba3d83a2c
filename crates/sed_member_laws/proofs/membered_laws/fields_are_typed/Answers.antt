use Rattle.sed_member_laws.proofs.FieldsTyped.{fields_typed}
use Rattle.sed_member_laws.proofs.membered_laws.fields_are_typed.Goals as goal

pub returns : goal.returns
returns c = fields_typed
