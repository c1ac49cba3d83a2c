use Rattle.scode_state.proofs.Coming.{added_fit, first_fit, removed_fit}
use Rattle.scode_state.proofs.laws.blocks_fit_on.Goals as goal

pub returns-clause-first : goal.returns-clause-first
returns-clause-first c = λ image h tables live statics. first_fit image h tables live statics

pub returns-clause-added : goal.returns-clause-added
returns-clause-added c = λ image h place class tables are fit. added_fit image h place fit class tables are

pub returns-clause-removed : goal.returns-clause-removed
returns-clause-removed c = λ image h place fit. removed_fit image h place fit
