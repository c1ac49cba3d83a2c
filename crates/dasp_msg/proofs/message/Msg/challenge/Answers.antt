use Rattle.std.proofs.Common.{ap, sym, subst, arith}
use Rattle.std.specs.Prelude.{Some, codes}
use Rattle.dasp_msg.specs.Sending.{CanGo}
use Rattle.dasp_msg.specs.Shown.{Message}
use Rattle.dasp_msg.proofs.OfKindLemmas.{challenge_can}
use Rattle.dasp_msg.proofs.message.Msg.challenge.Goals as goal

pub returns-clause-can : goal.returns-clause-can
returns-clause-can c =
    let says = ap (λ (m : Message). record m { remote_id = Some c.args.id; algorithm = Some (codes "SHA-1"); nonce = Some c.args.nonce.now }) c.plain.ensures in
    subst CanGo (sym says) (challenge_can c.args.to c.args.id c.args.nonce.now (omega arith))
