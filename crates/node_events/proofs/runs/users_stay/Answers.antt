use Rattle.node_events.proofs.Moments.{secret_stays, users_stay}
use Rattle.node_events.proofs.runs.users_stay.Goals as goal

pub returns-clause-users : goal.returns-clause-users
returns-clause-users c = users_stay

pub returns-clause-secret : goal.returns-clause-secret
returns-clause-secret c = secret_stays
