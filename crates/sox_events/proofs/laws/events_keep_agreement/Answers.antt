use Rattle.sox_events.proofs.Agreeing.{giving_agrees, passing_agrees}
use Rattle.sox_events.proofs.laws.events_keep_agreement.Goals as goal

pub returns-clause-none : goal.returns-clause-none
returns-clause-none g c = λ before after subs place passed w agree. passing_agrees g.E.Engine before after subs place passed w agree

pub returns-clause-event : goal.returns-clause-event
returns-clause-event g c = λ before after subs told place passed id part count into now w agree.
    giving_agrees g.E.Engine before after subs told place passed id part count into now w agree
