use Rattle.sox_events.proofs.Forgetting.{dying_forgets, ending_forgets, forgetting_agrees, nothing_agrees, subscribing_forgets}
use Rattle.sox_events.proofs.Forgetting.{unsubscribing_forgets}
use Rattle.sox_events.proofs.laws.subscribing_keeps_agreement.Goals as goal

pub returns-clause-nothing : goal.returns-clause-nothing
returns-clause-nothing g c = λ a subs is. nothing_agrees g.E.Engine a subs is

pub returns-clause-subscribed : goal.returns-clause-subscribed
returns-clause-subscribed g c = λ a before after place id mask is agree.
    forgetting_agrees g.E.Engine a before after (subscribing_forgets before after place id mask is) agree

pub returns-clause-unsubscribed : goal.returns-clause-unsubscribed
returns-clause-unsubscribed g c = λ a before after place id mask is agree.
    forgetting_agrees g.E.Engine a before after (unsubscribing_forgets before after place id mask is) agree

pub returns-clause-no_session : goal.returns-clause-no_session
returns-clause-no_session g c = λ a before after place is agree.
    forgetting_agrees g.E.Engine a before after (ending_forgets before after place is) agree

pub returns-clause-no_dead : goal.returns-clause-no_dead
returns-clause-no_dead g c = λ a before after is agree.
    forgetting_agrees g.E.Engine a before after (dying_forgets before after g.E.Engine a is) agree
