use Rattle.std.proofs.Common.{refl}
use Rattle.node_events.proofs.OverEngines.{same_bytes, same_due}
use Rattle.node_events.proofs.events.events_are_of_the_application.Goals as goal

pub returns-clause-bytes : goal.returns-clause-bytes
returns-clause-bytes c g = same_bytes c.E.Engine

pub returns-clause-due : goal.returns-clause-due
returns-clause-due c g = same_due c.E.Engine

pub returns-clause-live : goal.returns-clause-live
returns-clause-live c g = λ a subs place id part. refl
