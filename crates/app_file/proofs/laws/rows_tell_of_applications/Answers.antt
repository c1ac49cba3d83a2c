use Rattle.app_file.proofs.ToldRows.{rows_are_told}
use Rattle.app_file.proofs.ToldTexts.{rows_agree, stands_new, stands_old, told_by_its_rows}
use Rattle.app_file.proofs.laws.rows_tell_of_applications.Goals as goal

pub returns-clause-rows : goal.returns-clause-rows
returns-clause-rows c = rows_are_told

pub returns-clause-text : goal.returns-clause-text
returns-clause-text c = stands_new

pub returns-clause-old_text : goal.returns-clause-old_text
returns-clause-old_text c = stands_old

pub returns-clause-agree : goal.returns-clause-agree
returns-clause-agree c = λ m limit bytes a is. rows_agree m a is.kept

pub returns-clause-told : goal.returns-clause-told
returns-clause-told c = told_by_its_rows
