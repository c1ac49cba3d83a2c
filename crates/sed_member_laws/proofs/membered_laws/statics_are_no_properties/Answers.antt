use Rattle.sed_member_laws.proofs.FieldsTyped.{statics_apart}
use Rattle.sed_member_laws.proofs.membered_laws.statics_are_no_properties.Goals as goal

pub returns : goal.returns
returns c = statics_apart
