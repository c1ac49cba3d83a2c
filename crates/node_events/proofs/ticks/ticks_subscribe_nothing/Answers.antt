use Rattle.node_events.proofs.Elsewhere.{place_beside, ticked_less}
use Rattle.node_events.proofs.ticks.ticks_subscribe_nothing.Goals as goal

pub returns-clause-sessions : goal.returns-clause-sessions
returns-clause-sessions c = λ m t place. (place_beside m place t).sessions

pub returns-clause-subscriptions : goal.returns-clause-subscriptions
returns-clause-subscriptions c = λ m t place. (place_beside m place t).subscriptions

pub returns-clause-nothing : goal.returns-clause-nothing
returns-clause-nothing c = ticked_less
