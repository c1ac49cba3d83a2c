use Rattle.std.proofs.Common.{ap, sym, subst}
use Rattle.dasp_msg.specs.Sending.{CanGo}
use Rattle.dasp_msg.specs.Shown.{Message}
use Rattle.dasp_msg.proofs.OfKindLemmas.{close_can}
use Rattle.dasp_msg.proofs.message.Msg.close.Goals as goal

pub returns-clause-can : goal.returns-clause-can
returns-clause-can c =
    let says = ap (λ (m : Message). record m { error_code = c.args.code }) c.plain.ensures in
    subst CanGo (sym says) (close_can c.args.to c.args.code)
