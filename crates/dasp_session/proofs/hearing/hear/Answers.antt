use Rattle.std.proofs.Common.{◌≡◌, ℤ, subst, to_z-of_z}
use Rattle.dasp_msg.specs.View.{message_of}
use Rattle.dasp_msg.specs.declared.kind.MsgKind.TheVariants.{Authenticate, KeepAlive, Datagram, Close}
use Rattle.dasp_session.specs.Hearing.{hears}
use Rattle.dasp_session.proofs.KeepLemmas.{does-kind, effect-kind}
use Rattle.dasp_session.proofs.hearing.hear.Goals as goal
use Rattle.dasp_msg.specs.Shown.{Message}
use Rattle.dasp_session.specs.declared.place.Place.{Place}
use Rattle.dasp_session.specs.Keeping.{Like}
use Rattle.dasp_session.specs.Session.{Session}

heard_now : (moment given : ℤ) (place : Place) (message : Message) (session : Session) → given ≡ moment → Like place (hears given message session) → Like place (hears moment message session)
heard_now moment given place message session same like = subst (λ (t : ℤ). Like place (hears t message session)) same like

pub returns-in-Authenticate-clause-does : goal.returns-in-Authenticate-clause-does
returns-in-Authenticate-clause-does c = λ session like.
    does-kind c.args.users.now c.args.moment (message_of c.args.msg.now) session Authenticate _ _ _ c.in-Authenticate.is
    (c.authenticate.ensures.does (hears c.args.moment (message_of c.args.msg.now) session) (heard_now c.args.moment _ c.note.new.place (message_of c.args.msg.now) session (to_z-of_z c.ranges.moment) (c.note.ensures.like session like)))

pub returns-in-Authenticate-clause-effect : goal.returns-in-Authenticate-clause-effect
returns-in-Authenticate-clause-effect c = λ session like.
    effect-kind c.args.users.now c.args.moment (message_of c.args.msg.now) session Authenticate _ _ c.in-Authenticate.is
    (c.authenticate.ensures.effect (hears c.args.moment (message_of c.args.msg.now) session) (heard_now c.args.moment _ c.note.new.place (message_of c.args.msg.now) session (to_z-of_z c.ranges.moment) (c.note.ensures.like session like)))

pub returns-in-KeepAlive-clause-does : goal.returns-in-KeepAlive-clause-does
returns-in-KeepAlive-clause-does c = λ session like.
    does-kind c.args.users.now c.args.moment (message_of c.args.msg.now) session KeepAlive _ _ _ c.in-KeepAlive.is
    (c.keep_alive.ensures.does (hears c.args.moment (message_of c.args.msg.now) session) _ (heard_now c.args.moment _ c.note.new.place (message_of c.args.msg.now) session (to_z-of_z c.ranges.moment) (c.note.ensures.like session like)))

pub returns-in-Datagram-clause-does : goal.returns-in-Datagram-clause-does
returns-in-Datagram-clause-does c = λ session like.
    does-kind c.args.users.now c.args.moment (message_of c.args.msg.now) session Datagram _ _ _ c.in-Datagram.is
    (c.deliver.ensures.does (hears c.args.moment (message_of c.args.msg.now) session) _ (heard_now c.args.moment _ c.note.new.place (message_of c.args.msg.now) session (to_z-of_z c.ranges.moment) (c.note.ensures.like session like)))

pub returns-in-Datagram-clause-effect : goal.returns-in-Datagram-clause-effect
returns-in-Datagram-clause-effect c = λ session like.
    effect-kind c.args.users.now c.args.moment (message_of c.args.msg.now) session Datagram _ _ c.in-Datagram.is
    (c.deliver.ensures.effect (hears c.args.moment (message_of c.args.msg.now) session) (heard_now c.args.moment _ c.note.new.place (message_of c.args.msg.now) session (to_z-of_z c.ranges.moment) (c.note.ensures.like session like)))

pub returns-in-Close-clause-does : goal.returns-in-Close-clause-does
returns-in-Close-clause-does c = λ session like.
    does-kind c.args.users.now c.args.moment (message_of c.args.msg.now) session Close _ _ _ c.in-Close.is
    (c.end.ensures.does (hears c.args.moment (message_of c.args.msg.now) session) _)
