use Rattle.std.proofs.Common.{◌≡◌, true, sym, ◌∙◌, ap, subst, arith, to_z-of_z}
use Rattle.dasp_msg.specs.declared.due.Due.TheVariants.{Resend}
use Rattle.dasp_msg.specs.Outgoing.{Window, has_message}
use Rattle.dasp_msg.specs.Posted.{due_from}
use Rattle.dasp_msg.proofs.SenderLemmas.{due_from-list, has_message-due}
use Rattle.dasp_msg.proofs.sender.Sender.due.Goals as goal

pub returns-clause-posted : goal.returns-clause-posted
returns-clause-posted c = λ posted like.
    c.due_among.ensures
    ∙ ap (due_from c.self.inside.first c.self.inside.messages.items) (to_z-of_z c.ranges.now)
    ∙ ap (λ (w : Window). due_from w.first w.messages c.args.now) c.self.view_is
    ∙ due_from-list c.args.self.now posted c.args.now like

pub returns-clause-there : goal.returns-clause-there
returns-clause-there c = λ number is.
    let window : Window = record { first = c.self.inside.first; messages = c.self.inside.messages.items } in
    let due : due_from window.first window.messages c.args.now ≡ Resend number =
    ap (due_from window.first window.messages) (sym (to_z-of_z c.ranges.now)) ∙ sym c.due_among.ensures ∙ is in
    subst (λ (w : Window). has_message w number ≡ true) c.self.view_is
    (has_message-due window c.args.now number (omega (arith, c.self.invariant.1)) due)
