use Rattle.std.proofs.Common.{ap, sym, subst}
use Rattle.std.specs.Option.{option_map}
use Rattle.dasp_msg.specs.OfKind.{with_acks}
use Rattle.dasp_msg.specs.Sending.{CanGo}
use Rattle.dasp_msg.specs.Shown.{Message}
use Rattle.dasp_msg.proofs.OfKindLemmas.{keep_alive_can}
use Rattle.dasp_msg.proofs.message.Msg.keep_alive.Goals as goal

pub returns-clause-can : goal.returns-clause-can
returns-clause-can c =
    let more = option_map (λ bytes. bytes.now) c.args.more in
    let says = ap (λ (m : Message). with_acks c.args.ack more m) c.plain.ensures in
    subst CanGo (sym says) (keep_alive_can c.args.to c.args.ack more c.requires)
