use Rattle.std.proofs.Common.{◌∙◌, ap}
use Rattle.std.specs.Prelude.{Option}
use Rattle.dasp_session.specs.Looking.{Found}
use Rattle.dasp_session.specs.Receive.{in_found}
use Rattle.dasp_session.proofs.StandLemmas.{other-kind}
use Rattle.dasp_session.proofs.laws.strangers_change_nothing.Goals as goal

pub returns : goal.returns
returns c = λ state from message other none.
    other-kind message.kind state from message other ∙ ap (λ (found : Option Found). in_found state message found) none
