use Rattle.std.proofs.Common.{false, sym, subst}
use Rattle.dasp_session.specs.Doing.{Does}
use Rattle.dasp_session.specs.Hearing.{Step}
use Rattle.dasp_session.proofs.KeepLemmas.{does-eq, does-silent, like-owed, keep-sends, kept-on, kept-off}
use Rattle.dasp_session.proofs.ticking.keep_up.Goals as goal

pub returns-then-not-place-clause-does : goal.returns-then-not-place-clause-does
returns-then-not-place-clause-does c = λ session like.
    subst (λ (step : Step). Does session step c.args.place.now c.args.out.now c.args.out.now) (sym (kept-off c.args.place.now session like c.if-not-place.true))
    (does-silent session session c.args.place.now c.args.out.now c.requires.live like)

pub returns-clause-does : goal.returns-clause-does
returns-clause-does c = λ session like.
    does-eq session _ _ _ c.args.out.now c.send.new.self (kept-on c.args.place.now session like c.if-not-place.false)
    (record {
      holds = (c.requires.live, like-owed c.args.place.now false session like);
      sent =
          keep-sends c.args.place.now session c.of-acks.result.number c.of-acks.result.more _ c.args.out.now c.send.new.self like
          (c.of-acks.ensures.number session.taken like.windows.receives) (c.of-acks.ensures.more session.taken like.windows.receives)
          c.keep_alive.ensures.says c.send.ensures.sends;
    })
