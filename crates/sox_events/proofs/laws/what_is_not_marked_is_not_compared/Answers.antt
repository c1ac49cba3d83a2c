use Rattle.sox_events.proofs.Counting.{nothing_compared, nothing_compared_then}
use Rattle.sox_events.proofs.laws.what_is_not_marked_is_not_compared.Goals as goal

pub returns-clause-none : goal.returns-clause-none
returns-clause-none g c = λ before after subs place passed w clear. nothing_compared g.E.Engine before after subs place clear passed w

pub returns-clause-event : goal.returns-clause-event
returns-clause-event g c = λ before after subs told place passed id part length into now w clear.
    nothing_compared_then g.E.Engine before after subs place clear told passed id part length into now w
