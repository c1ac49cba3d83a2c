use Rattle.std.proofs.Common.{◌≡◌, true, sym, ◌∙◌, ap, subst, arith}
use Rattle.std.specs.Prelude.{Some}
use Rattle.std.proofs.lemmas.Option.{get_or_from_slice_get}
use Rattle.dasp_msg.specs.declared.outgoing.Message.{Message}
use Rattle.dasp_msg.specs.Outgoing.{Window, SendsLike, has_message}
use Rattle.dasp_msg.proofs.SenderLemmas.{StandsHere, stands_here, bytes_at-here}
use Rattle.dasp_msg.proofs.sender.Sender.bytes.Goals as goal

pub index-requires : goal.index-requires
index-requires c =
    let window : Window = record { first = c.self.inside.first; messages = c.self.inside.messages.items } in
    let here : StandsHere window c.args.number c.from-place.result =
    stands_here window c.args.number c.from-place.result (omega arith) (omega arith) c.from-place.ensures
    (subst (λ (w : Window). has_message w c.args.number ≡ true) (sym c.self.view_is) c.requires) in
    omega (arith, here.within)

pub returns-clause-posted : goal.returns-clause-posted
returns-clause-posted c = λ posted like.
    let window : Window = record { first = c.self.inside.first; messages = c.self.inside.messages.items } in
    let here : StandsHere window c.args.number c.from-place.result =
    stands_here window c.args.number c.from-place.result (omega arith) (omega arith) c.from-place.ensures
    (subst (λ (w : Window). has_message w c.args.number ≡ true) (sym c.self.view_is) c.requires) in
    let it : here.message ≡ c.index.result.now =
    sym (c.index.ensures ∙ get_or_from_slice_get window.messages c.from-place.result here.message c.index.result.now here.stands) in
    bytes_at-here window posted c.args.number c.from-place.result here (subst (λ (w : Window). SendsLike w posted) (sym c.self.view_is) like)
    ∙ ap (λ (m : Message). Some m.bytes) it ∙ ap Some (sym c.as_bytes.ensures.same)
