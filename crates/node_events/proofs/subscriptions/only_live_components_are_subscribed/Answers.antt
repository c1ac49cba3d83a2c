use Rattle.std.proofs.Common.{refl}
use Rattle.node_events.proofs.Subscribed.{run_only}
use Rattle.node_events.proofs.subscriptions.only_live_components_are_subscribed.Goals as goal

pub returns-clause-opened : goal.returns-clause-opened
returns-clause-opened c = λ m s a users secret moment place id part dead. refl

pub returns-clause-run : goal.returns-clause-run
returns-clause-run c = run_only
