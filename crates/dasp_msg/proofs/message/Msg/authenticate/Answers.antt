use Rattle.std.proofs.Common.{ap, sym, subst, arith}
use Rattle.std.specs.Prelude.{Some}
use Rattle.dasp_msg.specs.Sending.{CanGo}
use Rattle.dasp_msg.specs.Shown.{Message}
use Rattle.dasp_msg.proofs.OfKindLemmas.{authenticate_can}
use Rattle.dasp_msg.proofs.message.Msg.authenticate.Goals as goal

pub returns-clause-can : goal.returns-clause-can
returns-clause-can c =
    let says = ap (λ (m : Message). record m { username = Some c.args.user.now; digest = Some c.args.digest.now }) c.plain.ensures in
    subst CanGo (sym says) (authenticate_can c.args.to c.args.user.now c.args.digest.now c.requires (omega arith))
