use Rattle.sox_events.proofs.Forgetting.{forgetting_agrees}
use Rattle.sox_events.proofs.laws.forgetting_keeps_agreement.Goals as goal

pub returns : goal.returns
returns g c = λ a before after forgets agree. forgetting_agrees g.E.Engine a before after forgets agree
