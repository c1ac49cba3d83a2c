use Rattle.sed_statements.proofs.StatementsTold.{stmt_told, method_told}
use Rattle.sed_statements.proofs.laws.least_fault_of_methods_is_found.Goals as goal

pub returns-clause-statement : goal.returns-clause-statement
returns-clause-statement c = stmt_told c.least_of_two_lists.ensures c.least_fault_is_found.ensures

pub returns-clause-method : goal.returns-clause-method
returns-clause-method c = method_told c.least_of_two_lists.ensures c.least_fault_is_found.ensures
