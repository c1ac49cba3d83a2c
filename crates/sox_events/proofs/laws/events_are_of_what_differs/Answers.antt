use Rattle.sox_events.proofs.Agreeing.{given_first, passed_same}
use Rattle.sox_events.proofs.laws.events_are_of_what_differs.Goals as goal

pub returns-clause-none : goal.returns-clause-none
returns-clause-none g c = λ before after subs place passed w agree. passed_same g.E.Engine before after subs place agree passed w

pub returns-clause-event : goal.returns-clause-event
returns-clause-event g c = λ before after subs told place passed id part count into now w agree.
    given_first g.E.Engine before after subs place agree told passed id part count into now w
