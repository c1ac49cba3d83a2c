use Rattle.sed_layout.proofs.Apart.{fields_some, statics_some}
use Rattle.sed_layout.proofs.offset_laws.fields_take_bytes.Goals as goal

pub returns-clause-fields : goal.returns-clause-fields
returns-clause-fields c = fields_some

pub returns-clause-statics : goal.returns-clause-statics
returns-clause-statics c = statics_some
