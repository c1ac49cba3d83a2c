use Rattle.std.proofs.Common.{◌≡◌, ◌<◌, ℤ, [], ◌∷◌, length, refl, sym, ◌∙◌, ap, subst, arith, to_z-of_z}
use Rattle.dasp_msg.specs.declared.outgoing.Message.{Message as Posted}
use Rattle.dasp_msg.specs.declared.due.Due.TheVariants.{Resend}
use Rattle.dasp_msg.specs.Posted.{open_part, due_from, due_of, after_resend}
use Rattle.dasp_msg.specs.Outgoing.{SendsLike}
use Rattle.dasp_session.specs.Letters.{datagram}
use Rattle.dasp_session.proofs.DueLemmas.{due-some, Once, once, after_one, Rests, rests}
use Rattle.dasp_session.proofs.KeepLemmas.{like-posted, resend-sends}
use Rattle.dasp_session.proofs.ticking.send_due.Goals as goal

pub send-requires-clause-room : goal.send-requires-clause-room
send-requires-clause-room c =
    c.requires
    (due-some c.args.moment c.args.place.now.sender.messages c.args.place.now.sender.first c.in-Resend.number
    (subst (λ (t : ℤ). due_from c.args.place.now.sender.first c.args.place.now.sender.messages t ≡ Resend c.in-Resend.number) (to_z-of_z c.ranges.moment) (sym c.due.ensures.window ∙ c.in-Resend.is)))

pub returns-in-Resend-clause-resends : goal.returns-in-Resend-clause-resends
returns-in-Resend-clause-resends c = λ session like none.
    let few : length (open_part session.posted) < 65536 = omega (arith, ap (length {A = Posted}) like.windows.sends.messages, c.due.ensures.few) in
    let due : due_of session.posted c.args.moment ≡ Resend c.in-Resend.number =
    subst (λ (t : ℤ). due_of session.posted t ≡ Resend c.in-Resend.number) (to_z-of_z c.ranges.moment) (sym (c.due.ensures.posted session.posted like.windows.sends) ∙ c.in-Resend.is) in
    let it : Once session c.args.moment c.in-Resend.number = once session c.args.moment c.in-Resend.number few due none in
    record {
      now = after_one session c.in-Resend.number c.args.moment;
      sent = datagram session.remote_id session.taken c.in-Resend.number it.bytes ∷ [];
      like = like-posted c.args.place.now c.resend.new.self (after_one session c.in-Resend.number c.args.moment).posted session like (subst (λ (t : ℤ). SendsLike c.resend.new.self (after_resend session.posted c.in-Resend.number t)) (to_z-of_z c.ranges.moment) (c.resend.ensures.after session.posted like.windows.sends));
      put =
          resend-sends c.args.place.now session c.of-acks.result.number c.of-acks.result.more c.in-Resend.number c.bytes-bytes.result.now it.bytes _ c.args.out.now c.send.new.self like
          (c.of-acks.ensures.number session.taken like.windows.receives) (c.of-acks.ensures.more session.taken like.windows.receives)
          (sym (c.bytes-bytes.ensures.posted session.posted like.windows.sends) ∙ it.there) c.datagram.ensures.says c.send.ensures.sends;
      address = refl;
      messages = it.messages;
      becomes = it.becomes;
      not_spent = it.spent;
    }

pub returns-in_default-clause-resends : goal.returns-in_default-clause-resends
returns-in_default-clause-resends c = λ session like none.
    let it : Rests session c.args.moment = rests session c.args.moment none (λ number due. c.in_default.not-Resend number (c.due.ensures.posted session.posted like.windows.sends ∙ subst (λ (t : ℤ). due_of session.posted t ≡ Resend number) (sym (to_z-of_z c.ranges.moment)) due)) in
    (like, refl, it.messages, it.becomes)
