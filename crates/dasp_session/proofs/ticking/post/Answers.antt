use Rattle.std.proofs.Common.{ℕ, ℤ, refl, ◌∙◌, ap, subst, to_z-of_z}
use Rattle.dasp_msg.specs.Posted.{after_push}
use Rattle.dasp_msg.specs.Outgoing.{SendsLike}
use Rattle.dasp_msg.specs.declared.kind.MsgKind.TheVariants.{Datagram}
use Rattle.dasp_session.specs.Letters.{bare, with_acks, carrying}
use Rattle.dasp_session.proofs.KeepLemmas.{like-posted, resend-sends}
use Rattle.dasp_session.proofs.ticking.post.Goals as goal

pub returns-clause-does : goal.returns-clause-does
returns-clause-does c = λ session like.
    let number = c.push-number.ensures.number session.posted like.windows.sends in
    record {
      holds = (c.requires.live, like-posted c.args.place.now c.push-number.new.self (after_push session.posted c.args.bytes.now c.args.moment) session like (subst (λ (t : ℤ). SendsLike c.push-number.new.self (after_push session.posted c.args.bytes.now t)) (to_z-of_z c.ranges.moment) (c.push-number.ensures.after session.posted like.windows.sends)));
      sent =
          resend-sends c.args.place.now session c.of-acks.result.number c.of-acks.result.more _ c.args.bytes.now c.args.bytes.now _ c.args.out.now c.send.new.self like
          (c.of-acks.ensures.number session.taken like.windows.receives) (c.of-acks.ensures.more session.taken like.windows.receives) refl
          (c.datagram.ensures.says ∙ ap (λ (n : ℕ). carrying n c.args.bytes.now (with_acks c.of-acks.result.number c.of-acks.result.more (bare c.args.place.now.remote_id Datagram))) number) c.send.ensures.sends;
    }
