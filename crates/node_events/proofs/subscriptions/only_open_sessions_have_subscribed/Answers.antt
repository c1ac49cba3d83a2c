use Rattle.std.proofs.Common.{refl}
use Rattle.node_events.proofs.OpenSubscribed.{part_open, place_open, run_open, timed_open}
use Rattle.node_events.proofs.subscriptions.only_open_sessions_have_subscribed.Goals as goal

pub returns-clause-opened : goal.returns-clause-opened
returns-clause-opened c = λ m s a users secret moment place id part closed. refl

pub returns-clause-run : goal.returns-clause-run
returns-clause-run c = run_open

pub returns-clause-timed : goal.returns-clause-timed
returns-clause-timed c = λ t place. timed_open place t

pub returns-clause-place : goal.returns-clause-place
returns-clause-place c = place_open

pub returns-clause-part : goal.returns-clause-part
returns-clause-part c = λ m t place p. part_open m place t p
