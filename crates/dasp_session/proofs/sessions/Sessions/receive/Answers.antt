use Rattle.std.proofs.Common.{refl, sym, ap, subst}
use Rattle.dasp_msg.specs.View.{message_of}
use Rattle.dasp_msg.specs.declared.kind.MsgKind.{MsgKind}
use Rattle.dasp_session.specs.Receive.{Outcome, Handing, received_as}
use Rattle.dasp_session.specs.Standing.{IsHanded}
use Rattle.dasp_session.specs.declared.handed.Handed.TheVariants.{Nothing}
use Rattle.dasp_session.proofs.StandLemmas.{leaves-eq, other-kind, hello-hands}
use Rattle.dasp_session.proofs.sessions.Sessions.receive.Goals as goal

pub returns-in-Hello-clause-leaves : goal.returns-in-Hello-clause-leaves
returns-in-Hello-clause-leaves c = λ state stands.
    leaves-eq _ _ _ c.args.out.now c.greet.new.out (ap (λ (kind : MsgKind). received_as kind state c.args.from (message_of c.args.msg.now)) c.in-Hello.is)
    (c.greet.ensures.leaves state stands)

pub returns-in-Hello-clause-hands : goal.returns-in-Hello-clause-hands
returns-in-Hello-clause-hands c = λ state stands.
    subst (λ (kind : MsgKind). IsHanded c.args.at c.args.msg.now.payload.now (received_as kind state c.args.from (message_of c.args.msg.now)).handing Nothing) (sym c.in-Hello.is)
    (subst (λ (handing : Handing). IsHanded c.args.at c.args.msg.now.payload.now handing Nothing)
    (sym (hello-hands state c.args.from (message_of c.args.msg.now).version (message_of c.args.msg.now).remote_id (message_of c.args.msg.now).algorithm)) refl)

pub returns-in_default-clause-leaves : goal.returns-in_default-clause-leaves
returns-in_default-clause-leaves c = λ state stands.
    leaves-eq _ _ _ c.args.out.now c.tell.new.out (other-kind c.args.msg.now.kind state c.args.from (message_of c.args.msg.now) c.in_default.not-Hello)
    (c.tell.ensures.leaves state stands)

pub returns-in_default-clause-hands : goal.returns-in_default-clause-hands
returns-in_default-clause-hands c = λ state stands.
    subst (λ (outcome : Outcome). IsHanded c.args.at c.args.msg.now.payload.now outcome.handing c.tell.result) (sym (other-kind c.args.msg.now.kind state c.args.from (message_of c.args.msg.now) c.in_default.not-Hello))
    (c.tell.ensures.hands state stands)
