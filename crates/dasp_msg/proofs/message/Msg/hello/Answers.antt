use Rattle.std.proofs.Common.{ap, sym, subst}
use Rattle.std.specs.Prelude.{Some}
use Rattle.dasp_msg.specs.Sending.{CanGo}
use Rattle.dasp_msg.specs.Shown.{Message}
use Rattle.dasp_msg.proofs.OfKindLemmas.{hello_can}
use Rattle.dasp_msg.proofs.message.Msg.hello.Goals as goal

pub returns-clause-can : goal.returns-clause-can
returns-clause-can c =
    let says = ap (λ (m : Message). record m { version = Some 256; remote_id = Some c.args.remote_id }) c.plain.ensures in
    subst CanGo (sym says) (hello_can c.args.remote_id)
