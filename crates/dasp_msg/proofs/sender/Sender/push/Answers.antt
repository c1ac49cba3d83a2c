use Rattle.std.proofs.Common.{◌≡◌, ℕ, ◌+◌, ◌%◌, ◌<◌, [], ◌∷◌, ◌++◌, length, sym, ◌∙◌, ap, subst, arith, ℤ, w64, to_z, of_z, to_z-of_z}
use Rattle.dasp_msg.specs.Posted.{new_message, after_push}
use Rattle.dasp_msg.specs.Outgoing.{Window, SendsLike}
use Rattle.dasp_msg.proofs.SenderLemmas.{push_number, SendsLike-push, has_message-push}
use Rattle.dasp_msg.proofs.sender.Sender.push.Goals as goal

pub returns-clause-number : goal.returns-clause-number
returns-clause-number c = λ posted like.
    let window : Window = record { first = c.self.inside.first; messages = c.self.inside.messages.items } in
    let count : c.len.result ≡ length c.self.inside.messages.items = cc in
    ap (λ (n : ℕ). (c.self.inside.first + n) % 65536) count
    ∙ push_number window posted (subst (λ (w : Window). SendsLike w posted) (sym c.self.view_is) like)

pub returns-clause-after : goal.returns-clause-after
returns-clause-after c = λ posted like.
    let window : Window = record { first = c.self.inside.first; messages = c.self.inside.messages.items } in
    let moment : to_z w64 (of_z w64 c.args.now) ≡ c.args.now = to_z-of_z c.ranges.now in
    let family : ℤ → Type 0 = λ now. SendsLike (record { first = window.first; messages = window.messages ++ new_message c.args.bytes.now now ∷ [] }) (after_push posted c.args.bytes.now c.args.now) in
    rw (c.push_back_reserved.ensures.items, c.new.ensures)
    (subst family (sym moment) (SendsLike-push window posted c.args.bytes.now c.args.now (subst (λ (w : Window). SendsLike w posted) (sym c.self.view_is) like)))

pub returns-clause-there : goal.returns-clause-there
returns-clause-there c =
    let count : c.len.result ≡ length c.self.inside.messages.items = cc in
    let few : length c.self.inside.messages.items < 65536 = omega (arith, c.self.invariant.1) in
    rw (c.push_back_reserved.ensures.items, count) (has_message-push c.self.inside.first c.self.inside.messages.items _ few)
