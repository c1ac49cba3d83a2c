use Rattle.node_events.proofs.Replies.{no_save, refused_stays}
use Rattle.node_events.proofs.deliveries.refused_commands_leave_a_node.Goals as goal

pub returns-clause-application : goal.returns-clause-application
returns-clause-application c = λ m s n from heard mishap refusal is.
    (refused_stays c.refused_commands_change_nothing.ensures.refused m s n from heard mishap refusal is).application

pub returns-clause-subscriptions : goal.returns-clause-subscriptions
returns-clause-subscriptions c = λ m s n from heard mishap refusal is.
    (refused_stays c.refused_commands_change_nothing.ensures.refused m s n from heard mishap refusal is).subscriptions

pub returns-clause-save : goal.returns-clause-save
returns-clause-save c = no_save
