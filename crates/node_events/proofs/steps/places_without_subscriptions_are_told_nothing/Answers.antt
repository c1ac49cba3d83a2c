use Rattle.node_events.specs.Events.{parts_of}
use Rattle.node_events.proofs.InOrder.{nothing_due, nothing_told}
use Rattle.node_events.proofs.steps.places_without_subscriptions_are_told_nothing.Goals as goal

pub returns-clause-due : goal.returns-clause-due
returns-clause-due c = nothing_due

pub returns-clause-told : goal.returns-clause-told
returns-clause-told c = λ m place t none. nothing_told m place t none (parts_of t.node.application)
