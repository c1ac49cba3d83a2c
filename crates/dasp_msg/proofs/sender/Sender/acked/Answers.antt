use Rattle.std.proofs.Common.{◌≡◌, ◌+◌, ◌≤◌, length, sym, ◌∙◌, ap, subst, arith}
use Rattle.dasp_msg.specs.Numbers.{wire_number, distance}
use Rattle.dasp_msg.specs.Posted.{first_open, is_for}
use Rattle.dasp_msg.specs.Outgoing.{Window, SendsLike}
use Rattle.dasp_msg.proofs.KeptLemmas.{length-acknowledged}
use Rattle.dasp_msg.proofs.PostedLemmas.{length-open_part}
use Rattle.dasp_msg.proofs.SenderLemmas.{SendsLike-ack}
use Rattle.dasp_msg.proofs.sender.Sender.acked.Goals as goal

pub forget-gone-requires : goal.forget-gone-requires
forget-gone-requires c =
    let same : length c.mark.new.messages.items ≡ length c.self.inside.messages.items =
    ap length c.mark.ensures.items ∙ length-acknowledged (is_for c.from-count.result c.args.more) c.self.inside.messages.items 0 in
    omega (arith, same, c.self.invariant.1)

pub invariant_of-self : goal.invariant_of-self
invariant_of-self c =
    let same : length c.mark.new.messages.items ≡ length c.self.inside.messages.items =
    ap length c.mark.ensures.items ∙ length-acknowledged (is_for c.from-count.result c.args.more) c.self.inside.messages.items 0 in
    let less : length c.forget-gone.new.messages.items ≤ length c.mark.new.messages.items =
    rw c.forget-gone.ensures.items (omega (arith, length-open_part c.mark.new.messages.items)) in
    (omega (arith, c.self.invariant.0, c.forget-gone.ensures.capacity, c.mark.ensures.capacity), omega (arith, same, less, c.self.invariant.1))

pub returns-then-count-len : goal.returns-then-count-len
returns-then-count-len c = λ posted like.
    let window : Window = record { first = c.self.inside.first; messages = c.self.inside.messages.items } in
    let like' : SendsLike window posted = subst (λ (w : Window). SendsLike w posted) (sym c.self.view_is) like in
    let first : c.self.inside.first ≡ wire_number (first_open posted) = like'.first in
    let beyond : c.from-count.result ≡ distance (first_open posted) (wire_number (c.args.ack + 1)) = omega (arith, c.from-count.ensures) in
    let within : c.from-count.result ≤ length window.messages = omega (arith, c.len.ensures, c.if-count-len.true) in
    rw (c.forget-gone.ensures.items, c.forget-gone.ensures.count, c.mark.ensures.items)
    (SendsLike-ack window posted c.args.ack c.from-count.result c.args.more like' beyond within)
