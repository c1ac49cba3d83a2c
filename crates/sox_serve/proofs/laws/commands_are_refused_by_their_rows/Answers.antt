use Rattle.sox_serve.proofs.ByRow.{refused_first, done_else}
use Rattle.sox_serve.proofs.laws.commands_are_refused_by_their_rows.Goals as goal

pub returns-clause-refused : goal.returns-clause-refused
returns-clause-refused c = refused_first

pub returns-clause-done : goal.returns-clause-done
returns-clause-done c = done_else
