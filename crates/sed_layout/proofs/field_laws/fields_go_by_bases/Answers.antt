use Rattle.sed_typed.specs.TypedSchema.{IsField}
use Rattle.sed_layout.proofs.Inherited.{fields_alone, fields_of_base, of_fields}
use Rattle.sed_layout.proofs.field_laws.fields_go_by_bases.Goals as goal

pub returns-clause-base : goal.returns-clause-base
returns-clause-base c = fields_of_base

pub returns-clause-alone : goal.returns-clause-alone
returns-clause-alone c = fields_alone

pub returns-clause-each : goal.returns-clause-each
returns-clause-each c = λ program typed class. of_fields (IsField program) program typed.fields class
