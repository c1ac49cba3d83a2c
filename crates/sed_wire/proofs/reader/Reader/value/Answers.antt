use Rattle.sed_wire.specs.declared.fault.ValueFault.TheVariants.{Short, BadBool, TooLong}
use Rattle.sed_wire.proofs.ReadingLemmas.{value-again, value-fault}
use Rattle.sed_wire.proofs.reader.Reader.value.Goals as goal

pub returns-clause-short : goal.returns-clause-short
returns-clause-short c = value-fault Short c.args.slot _ _ _ c.value_or_fault.ensures

pub returns-clause-bad_bool : goal.returns-clause-bad_bool
returns-clause-bad_bool c = value-fault BadBool c.args.slot _ _ _ c.value_or_fault.ensures

pub returns-clause-too_long : goal.returns-clause-too_long
returns-clause-too_long c = value-fault TooLong c.args.slot _ _ _ c.value_or_fault.ensures

pub returns-clause-again : goal.returns-clause-again
returns-clause-again c = value-again c.args.slot _ _ _ c.value_or_fault.ensures
