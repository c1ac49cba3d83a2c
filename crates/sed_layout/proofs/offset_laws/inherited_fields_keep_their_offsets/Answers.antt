use Rattle.sed_layout.proofs.Inherited.{above_fields, base_fields}
use Rattle.sed_layout.proofs.offset_laws.inherited_fields_keep_their_offsets.Goals as goal

pub returns-clause-base : goal.returns-clause-base
returns-clause-base c = base_fields

pub returns-clause-above : goal.returns-clause-above
returns-clause-above c = above_fields
