use Rattle.std.proofs.Common.{ap, sym, subst}
use Rattle.std.specs.Option.{option_map}
use Rattle.dasp_msg.specs.OfKind.{carrying, with_acks}
use Rattle.dasp_msg.specs.Sending.{CanGo}
use Rattle.dasp_msg.specs.Shown.{Message}
use Rattle.dasp_msg.proofs.OfKindLemmas.{datagram_can}
use Rattle.dasp_msg.proofs.message.Msg.datagram.Goals as goal

pub returns-clause-can : goal.returns-clause-can
returns-clause-can c =
    let more = option_map (λ bytes. bytes.now) c.args.more in
    let says = ap (λ (m : Message). carrying c.args.number c.args.payload.now (with_acks c.args.ack more m)) c.plain.ensures in
    subst CanGo (sym says) (datagram_can c.args.to c.args.ack c.args.number more c.args.payload.now c.requires.four c.requires.short)
