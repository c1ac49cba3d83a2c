use Rattle.std.proofs.Common.{◌∷◌, [], refl, sym, ◌∙◌, subst}
use Rattle.dasp_msg.specs.Shown.{Message}
use Rattle.dasp_session.specs.Doing.{Does, IsEffect}
use Rattle.dasp_session.specs.Hearing.{Step}
use Rattle.dasp_session.specs.Outbox.{Sends}
use Rattle.dasp_session.specs.declared.handed.Effect.TheVariants.{Nothing, Ended}
use Rattle.dasp_session.proofs.KeepLemmas.{does-silent, does-close, refused-on, refused-ends}
use Rattle.dasp_session.proofs.hearing.refuse.Goals as goal

pub returns-then-is_some-clause-does : goal.returns-then-is_some-clause-does
returns-then-is_some-clause-does c = λ session like.
    subst (λ (step : Step). Does session step c.args.place.now c.args.out.now c.args.out.now) (sym (refused-on c.args.place.now session like (sym c.is_some.ensures ∙ c.if-is_some.true)))
    (does-silent session session c.args.place.now c.args.out.now c.requires.live like)

pub returns-then-is_some-clause-effect : goal.returns-then-is_some-clause-effect
returns-then-is_some-clause-effect c = λ session payload like.
    subst (λ (step : Step). IsEffect payload step.effect Nothing) (sym (refused-on c.args.place.now session like (sym c.is_some.ensures ∙ c.if-is_some.true))) refl

pub returns-clause-does : goal.returns-clause-does
returns-clause-does c = λ session like.
    does-close c.args.place.now _ session _ 0xe4 c.args.out.now c.send.new.self like refl
    (refused-ends c.args.place.now session like (sym c.is_some.ensures ∙ c.if-is_some.false))
    (subst (λ (m : Message). Sends (record { to = c.args.place.now.address; message = m } ∷ []) c.args.out.now c.send.new.self) c.close.ensures.says c.send.ensures.sends)

pub returns-clause-effect : goal.returns-clause-effect
returns-clause-effect c = λ session payload like.
    subst (λ (step : Step). IsEffect payload step.effect Ended) (sym (refused-ends c.args.place.now session like (sym c.is_some.ensures ∙ c.if-is_some.false))) refl
