use Rattle.printed_app.proofs.Paths.{below_app, below_parent}
use Rattle.printed_app.proofs.laws.paths_lead_down.Goals as goal

pub returns-clause-child : goal.returns-clause-child
returns-clause-child c = below_app

pub returns-clause-below : goal.returns-clause-below
returns-clause-below c = below_parent
