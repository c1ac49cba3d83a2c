use Rattle.sed_parser.proofs.Units as units
use Rattle.sed_parser.proofs.parsing.fault_is_one.Goals as goal

pub returns-clause-one : goal.returns-clause-one
returns-clause-one c = units.fault_is_one

pub returns-clause-none : goal.returns-clause-none
returns-clause-none c = units.no_unit_faults
