use Rattle.sed_typed.proofs.SystemMethods.{begin, begins_at}
use Rattle.sed_typed.proofs.laws.components_begin_with_system_methods.Goals as goal

pub returns-clause-begins : goal.returns-clause-begins
returns-clause-begins c = begin

pub returns-clause-component : goal.returns-clause-component
returns-clause-component c = begins_at
