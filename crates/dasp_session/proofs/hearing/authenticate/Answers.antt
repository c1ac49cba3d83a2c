use Rattle.std.proofs.Common.{ℕ, List, ◌∷◌, [], refl, sym, subst}
use Rattle.std.specs.Prelude.{Option, Some}
use Rattle.dasp_msg.specs.Shown.{Message}
use Rattle.dasp_msg.specs.View.{message_of}
use Rattle.dasp_session.specs.Doing.{Does, IsEffect}
use Rattle.dasp_session.specs.Hearing.{Step}
use Rattle.dasp_session.specs.Keeping.{Like}
use Rattle.dasp_session.specs.Letters.{welcome}
use Rattle.dasp_session.specs.Outbox.{Sends}
use Rattle.dasp_session.specs.declared.handed.Effect.TheVariants.{Nothing}
use Rattle.dasp_session.proofs.KeepLemmas.{does-eq, like-user, sends-here, authenticated-right, authenticated-wrong}
use Rattle.dasp_session.proofs.hearing.authenticate.Goals as goal

pub returns-in-Some-clause-does : goal.returns-in-Some-clause-does
returns-in-Some-clause-does c = λ session like.
    let message : Message = message_of c.args.msg.now in
    does-eq session _ _ _ c.args.out.now c.send.new.self (authenticated-right c.args.users.now message c.args.place.now session like c.in-Some.ensures.0)
    (record {
      holds = (
        c.requires.live,
        subst (λ (user : Option (List ℕ)). Like (record c.args.place.now { user = Some c.in-Some.user }) (record session { user = user })) (sym c.in-Some.ensures.1) (like-user c.args.place.now (Some c.in-Some.user) session like),
      );
      sent =
          sends-here c.args.place.now session welcome c.args.out.now c.send.new.self like
          (subst (λ (m : Message). Sends (record { to = c.args.place.now.address; message = m } ∷ []) c.args.out.now c.send.new.self) c.welcome.ensures.says c.send.ensures.sends);
    })

pub returns-in-Some-clause-effect : goal.returns-in-Some-clause-effect
returns-in-Some-clause-effect c = λ session like.
    subst (λ (step : Step). IsEffect c.args.msg.now.payload.now step.effect Nothing) (sym (authenticated-right c.args.users.now (message_of c.args.msg.now) c.args.place.now session like c.in-Some.ensures.0)) refl

pub returns-in-None-clause-does : goal.returns-in-None-clause-does
returns-in-None-clause-does c = λ session like.
    subst (λ (step : Step). Does session step c.refuse.new.place c.args.out.now c.refuse.new.out) (sym (authenticated-wrong c.args.users.now (message_of c.args.msg.now) c.args.place.now session like c.in-None.ensures))
    (c.refuse.ensures.does session like)

pub returns-in-None-clause-effect : goal.returns-in-None-clause-effect
returns-in-None-clause-effect c = λ session like.
    subst (λ (step : Step). IsEffect c.args.msg.now.payload.now step.effect c.refuse.result) (sym (authenticated-wrong c.args.users.now (message_of c.args.msg.now) c.args.place.now session like c.in-None.ensures))
    (c.refuse.ensures.effect session c.args.msg.now.payload.now like)
