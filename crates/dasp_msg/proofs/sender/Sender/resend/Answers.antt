use Rattle.std.proofs.Common.{◌≡◌, ◌<◌, List, length, set, sym, ◌∙◌, ap, subst, arith, ℤ, to_z-of_z}
use Rattle.std.specs.Prelude.{is_some, count_by}
use Rattle.std.proofs.lemmas.List.{length-set}
use Rattle.std.proofs.lemmas.Option.{get_or_from_slice_get}
use Rattle.dasp_msg.specs.declared.outgoing.Message.{Message}
use Rattle.dasp_msg.specs.declared.due.Due.TheVariants.{Resend}
use Rattle.dasp_msg.specs.Posted.{due_from, sent_again, after_resend, message_of, is_due}
use Rattle.dasp_msg.specs.Outgoing.{Window, SendsLike, has_message}
use Rattle.dasp_msg.proofs.SenderLemmas.{DueHere, due_here, sendings-due, SendsLike-resend, has_message-resend, fewer-resend}
use Rattle.dasp_msg.proofs.sender.Sender.resend.Goals as goal

pub index_mut-requires : goal.index_mut-requires
index_mut-requires c =
    let window : Window = record { first = c.self.inside.first; messages = c.self.inside.messages.items } in
    let due : due_from window.first window.messages c.args.now ≡ Resend c.args.number =
    subst (λ (w : Window). due_from w.first w.messages c.args.now ≡ Resend c.args.number) (sym c.self.view_is) c.requires in
    let here : DueHere window c.args.now c.args.number c.from-place.result =
    due_here window c.args.now c.args.number c.from-place.result (omega (arith, c.self.invariant.1)) (omega arith) c.from-place.ensures due in
    omega (arith, here.within)

pub send_again-requires : goal.send_again-requires
send_again-requires c =
    let window : Window = record { first = c.self.inside.first; messages = c.self.inside.messages.items } in
    let due : due_from window.first window.messages c.args.now ≡ Resend c.args.number =
    subst (λ (w : Window). due_from w.first w.messages c.args.now ≡ Resend c.args.number) (sym c.self.view_is) c.requires in
    let here : DueHere window c.args.now c.args.number c.from-place.result =
    due_here window c.args.now c.args.number c.from-place.result (omega (arith, c.self.invariant.1)) (omega arith) c.from-place.ensures due in
    let it : c.index_mut.result.now ≡ here.message =
    c.index_mut.ensures.value ∙ get_or_from_slice_get window.messages c.from-place.result here.message c.index_mut.result.now here.stands in
    subst (λ (m : Message). m.sendings < 3) (sym it) (sendings-due c.args.now here.message here.due)

-- the other clauses, of the messages in which the one that is due was sent again
pub returns : goal.returns
returns c =
    let window : Window = record { first = c.self.inside.first; messages = c.self.inside.messages.items } in
    let due : due_from window.first window.messages c.args.now ≡ Resend c.args.number =
    subst (λ (w : Window). due_from w.first w.messages c.args.now ≡ Resend c.args.number) (sym c.self.view_is) c.requires in
    let here : DueHere window c.args.now c.args.number c.from-place.result =
    due_here window c.args.now c.args.number c.from-place.result (omega (arith, c.self.invariant.1)) (omega arith) c.from-place.ensures due in
    let it : c.index_mut.result.now ≡ here.message =
    c.index_mut.ensures.value ∙ get_or_from_slice_get window.messages c.from-place.result here.message c.index_mut.result.now here.stands in
    let again : c.send_again.new.message ≡ sent_again c.args.now here.message =
    c.send_again.ensures ∙ ap (λ (now : ℤ). sent_again now c.index_mut.result.now) (to_z-of_z c.ranges.now) ∙ ap (sent_again c.args.now) it in
    let changed : set window.messages c.from-place.result (sent_again c.args.now here.message) ≡ set window.messages c.from-place.result c.send_again.new.message =
    ap (set window.messages c.from-place.result) (sym again) in
    record {
      after = λ posted like.
          subst (λ (messages : List Message). SendsLike (record { first = window.first; messages = messages }) (after_resend posted c.args.number c.args.now)) changed
          (SendsLike-resend window posted c.args.now c.args.number c.from-place.result here (subst (λ (w : Window). SendsLike w posted) (sym c.self.view_is) like));
      there = λ other.
          ap (λ (messages : List Message). is_some (message_of other window.first messages)) (sym changed)
          ∙ has_message-resend window c.args.now c.args.number c.from-place.result other here
          ∙ ap (λ (w : Window). has_message w other) c.self.view_is;
      fewer =
          let less : count_by (is_due c.args.now) (set window.messages c.from-place.result c.send_again.new.message) < count_by (is_due c.args.now) window.messages =
          subst (λ (messages : List Message). count_by (is_due c.args.now) messages < count_by (is_due c.args.now) window.messages) changed
          (fewer-resend window c.args.now c.args.number c.from-place.result here) in
          subst (λ (w : Window). count_by (is_due c.args.now) (set window.messages c.from-place.result c.send_again.new.message) < count_by (is_due c.args.now) w.messages) c.self.view_is less;
      as_many =
          length-set window.messages c.from-place.result c.send_again.new.message
          ∙ ap (λ (w : Window). length w.messages) c.self.view_is;
    }
