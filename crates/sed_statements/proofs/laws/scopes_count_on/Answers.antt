use Rattle.sed_statements.proofs.Scopes.{behind_reaches, all_reaches, case_reaches, cases_reaches}
use Rattle.sed_statements.proofs.laws.scopes_count_on.Goals as goal

pub returns-clause-statement : goal.returns-clause-statement
returns-clause-statement c = behind_reaches

pub returns-clause-row : goal.returns-clause-row
returns-clause-row c = all_reaches

pub returns-clause-label : goal.returns-clause-label
returns-clause-label c = case_reaches

pub returns-clause-labels : goal.returns-clause-labels
returns-clause-labels c = cases_reaches
