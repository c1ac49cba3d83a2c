use Rattle.std.proofs.Common.{◌≡◌, ℕ, List, length, refl, sym, subst, ◌∙◌, ap, arith}
use Rattle.sed_wire.specs.Writing.{Writes}
use Rattle.dasp_msg.specs.Field.{Part, SpellsFields}
use Rattle.dasp_msg.specs.Header.{SpellsHeader}
use Rattle.dasp_msg.specs.Sending.{fields_size, header_of, sent_fields}
use Rattle.dasp_msg.specs.View.{message_of}
use Rattle.dasp_msg.specs.Writing.{CanBeFields}
use Rattle.dasp_msg.proofs.HeaderLemmas.{header-size}
use Rattle.dasp_msg.proofs.SendingLemmas.{fields-size}
use Rattle.sed_wire.proofs.WritingLemmas.{room-after}
use Rattle.dasp_msg.proofs.WritingLemmas.{can-sent, datagram-put}
use Rattle.dasp_msg.proofs.writing.put_msg.Goals as goal

pub put_fields-requires-clause-can : goal.put_fields-requires-clause-can
put_fields-requires-clause-can c =
    subst CanBeFields (sym c.of-sent.ensures) (can-sent (message_of c.args.msg.now) c.requires.may)

pub put_bytes-requires : goal.put_bytes-requires
put_bytes-requires c =
    let head = c.put_header.ensures in
    let body = c.put_fields.ensures in
    omega (
      arith,
      room-after _ _ _ head.appends,
      room-after _ _ _ body.appends,
      header-size _ head.spelling head.spelled,
      fields-size _ body.spelling body.spelled,
      ap fields_size c.of-sent.ensures,
      c.requires.fits,
    )

pub returns : goal.returns
returns c =
    let m = message_of c.args.msg.now in
    let fields = sent_fields m.kind m in
    let counted : c.count.result ≡ length fields = c.count.ensures ∙ ap length c.of-sent.ensures in
    let head = subst (λ (n : ℕ). Writes SpellsHeader (record (header_of m) { count = n }) c.args.writer.now
    c.put_header.new.writer) counted c.put_header.ensures in
    let body = subst (λ (fs : List Part). Writes SpellsFields fs c.put_header.new.writer c.put_fields.new.writer)
    c.of-sent.ensures c.put_fields.ensures in
    let done = datagram-put (header_of m) fields m.payload _ _ _ _ refl head body c.put_bytes.ensures in
    record { spelling = done.spelling; spelled = done.spelled; appends = done.appends }
