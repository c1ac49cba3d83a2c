use Rattle.std.proofs.Common.{refl}
use Rattle.node_events.proofs.Bounded.{run_live}
use Rattle.node_events.proofs.Moments.{places_stay}
use Rattle.node_events.proofs.sendings.sixteen_sessions_live_at_most.Goals as goal

pub returns-clause-opened : goal.returns-clause-opened
returns-clause-opened c = λ m s a users secret moment. refl

pub returns-clause-places : goal.returns-clause-places
returns-clause-places c = places_stay

pub returns-clause-live : goal.returns-clause-live
returns-clause-live c = run_live
