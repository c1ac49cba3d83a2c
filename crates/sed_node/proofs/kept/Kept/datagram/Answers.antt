use Rattle.std.proofs.Common.{◌≡◌, ℕ, true, false, List, length, refl, sym, ◌∙◌, ap, subst, arith}
use Rattle.std.specs.Prelude.{Option, Some, None}
use Rattle.sox_events.specs.Due.{subscriptions}
use Rattle.dasp_session.specs.Receive.{Outcome, received}
use Rattle.dasp_session.specs.Standing.{Hands}
use Rattle.dasp_session.specs.declared.handed.Handed.{Handed}
use Rattle.node_events.specs.Heard.{Heard, IsHeard, IsWish}
use Rattle.node_events.specs.Mishap.{nothing_wrong}
use Rattle.node_events.specs.Node.{Node}
use Rattle.node_events.specs.Serving.{served}
use Rattle.sed_node.specs.Doing.{Delivers, Does}
use Rattle.sed_node.specs.Standing.{code_of, setup_of}
use Rattle.sed_node.proofs.Delivered.{by_heard, delivers_by, is_read, lands_ended, lands_nothing, lands_payload}
use Rattle.sed_node.proofs.Delivered.{not_payload}
use Rattle.sed_node.proofs.Keeping.{kept_by, no_time}
use Rattle.sed_node.proofs.kept.Kept.datagram.Goals as goal

pub datagram-requires : goal.datagram-requires
datagram-requires g c = let none = ap length c.requires.empty in omega (arith, none)

pub drop_session-requires : goal.drop_session-requires
drop_session-requires g c = c.datagram.ensures.ended_place _ c.in-Ended.is

pub answer-requires-clause-is_kept : goal.answer-requires-clause-is_kept
answer-requires-clause-is_kept g c =
    let kept = c.requires.stands.1.is_kept in
    kept_by g.E.Engine c.args.self.now _ kept refl kept.whole kept.agree (λ part. refl)

pub answer-requires-clause-place : goal.answer-requires-clause-place
answer-requires-clause-place g c = c.datagram.ensures.payload_place _ _ c.in-Payload.is

pub answer-requires-clause-may : goal.answer-requires-clause-may
answer-requires-clause-may g c = c.datagram.ensures.payload _ _ c.in-Payload.is

pub answer-requires-clause-room : goal.answer-requires-clause-room
answer-requires-clause-room g c = let none = ap length c.requires.empty in let few = c.datagram.ensures.few in
    omega (arith, none, few)

pub returns-in-Nothing-clause-delivers : goal.returns-in-Nothing-clause-delivers
returns-in-Nothing-clause-delivers g c = λ n heard stands is.
    let kept = stands.is_kept in
    delivers_by c.only_open_sessions_have_subscribed.ensures.run c.few_messages_are_sent.ensures.run
    c.few_messages_are_sent.ensures.datagram g.E.Engine
    g.D.Disk.meaning c.args.self.now _ n c.args.from heard nothing_wrong
    c.datagram.new.out c.args.disk.now c.args.disk.now stands
    (kept_by g.E.Engine c.args.self.now _ kept refl kept.whole kept.agree (λ part. refl))
    (record { code = refl; setup = refl; fixed = refl }) (tt {0})
    (λ so. absurd (let no : false ≡ true = so in cc))
    (lands_nothing g.E.Engine g.D.Disk.meaning c.args.self.now _ n c.args.from nothing_wrong c.args.bytes.now
    c.args.out.now c.datagram.new.out c.requires.empty stands.holds refl
    c.args.disk.now heard refl
    (λ read same. c.datagram.ensures.leaves n.sessions read stands.holds.sessions
    (is_read c.args.bytes.now heard is read same))
    (λ read same. subst (λ (h : Handed). Hands c.args.bytes.now (received n.sessions c.args.from read).handing h)
    c.in-Nothing.is
    (c.datagram.ensures.hands n.sessions read stands.holds.sessions (is_read c.args.bytes.now heard is read same))))

pub returns-in-Nothing-clause-time : goal.returns-in-Nothing-clause-time
returns-in-Nothing-clause-time g c = no_time (g.D.Disk.meaning c.args.disk.now)

pub returns-in-Ended-clause-delivers : goal.returns-in-Ended-clause-delivers
returns-in-Ended-clause-delivers g c = λ n heard stands is.
    let kept = stands.is_kept in
    delivers_by c.only_open_sessions_have_subscribed.ensures.run c.few_messages_are_sent.ensures.run
    c.few_messages_are_sent.ensures.datagram g.E.Engine
    g.D.Disk.meaning c.args.self.now _ n c.args.from heard nothing_wrong
    c.datagram.new.out c.args.disk.now c.args.disk.now stands
    (kept_by g.E.Engine c.args.self.now _ kept refl kept.whole
    (c.subscribing_keeps_agreement.ensures.no_session c.args.self.now.app (subscriptions c.args.self.now.subs)
    (subscriptions c.drop_session.new.self) c.in-Ended.place
    c.drop_session.ensures.after kept.agree) c.drop_session.ensures.room)
    (record { code = refl; setup = refl; fixed = refl }) (tt {0})
    (λ so. absurd (let no : false ≡ true = so in cc))
    (lands_ended g.E.Engine g.D.Disk.meaning c.args.self.now _ n c.args.from nothing_wrong c.args.bytes.now
    c.args.out.now c.datagram.new.out c.requires.empty stands.holds refl
    c.args.disk.now c.in-Ended.place heard c.drop_session.ensures.after
    (λ read same. c.datagram.ensures.leaves n.sessions read stands.holds.sessions
    (is_read c.args.bytes.now heard is read same))
    (λ read same. subst (λ (h : Handed). Hands c.args.bytes.now (received n.sessions c.args.from read).handing h)
    c.in-Ended.is
    (c.datagram.ensures.hands n.sessions read stands.holds.sessions (is_read c.args.bytes.now heard is read same))))

pub returns-in-Ended-clause-time : goal.returns-in-Ended-clause-time
returns-in-Ended-clause-time g c = no_time (g.D.Disk.meaning c.args.disk.now)

pub returns-in-Payload-clause-delivers : goal.returns-in-Payload-clause-delivers
returns-in-Payload-clause-delivers g c = λ n heard stands.
    let place = c.in-Payload.place in
    let at = c.in-Payload.at in
    let bytes = c.args.bytes.now in
    by_heard (λ (x : Option Heard). IsHeard bytes x
    → Delivers g.E.Engine g.D.Disk.meaning c.args.self.now c.answer.new.self n c.args.from x c.answer.new.out
    c.args.disk.now c.answer.new.disk)
    (λ is. absurd {0} (not_payload place at
    (sym c.in-Payload.is ∙ c.datagram.ensures.hands n.sessions None stands.holds.sessions is)))
    (λ h is.
    let outcome : Outcome = received n.sessions c.args.from (Some h.message) in
    let n1 : Node = record n { sessions = outcome.state } in
    let left = c.datagram.ensures.leaves n.sessions (Some h.message) stands.holds.sessions is.0 in
    let own = c.datagram.ensures.own h.message place at is.0 c.in-Payload.is in
    let wish : IsWish c.rest_of.result.now h.wish =
    subst (λ (p : List ℕ). IsWish p h.wish) (sym own ∙ sym c.rest_of.ensures) is.1 in
    let a = c.answer.ensures.answers n1 h.wish
    (record { application = stands.holds.application; sessions = left.state; subscribed = stands.holds.subscribed })
    wish in
    let same = c.answer.ensures.same in
    delivers_by c.only_open_sessions_have_subscribed.ensures.run c.few_messages_are_sent.ensures.run
    c.few_messages_are_sent.ensures.datagram g.E.Engine
    g.D.Disk.meaning c.args.self.now c.answer.new.self n c.args.from (Some h) a.mishap
    c.answer.new.out c.args.disk.now c.answer.new.disk stands c.answer.ensures.is_kept
    (record { code = same.code; setup = same.setup; fixed = same.fixed }) a.may a.adds_alone
    (lands_payload g.E.Engine g.D.Disk.meaning c.args.self.now c.answer.new.self n c.args.from a.mishap bytes
    c.args.out.now c.answer.new.out c.requires.empty stands.holds place at h
    c.datagram.new.out c.args.disk.now c.answer.new.disk left.sent
    (subst (λ (x : Handed). Hands bytes outcome.handing x) c.in-Payload.is
    (c.datagram.ensures.hands n.sessions (Some h.message) stands.holds.sessions is.0))
    (subst (λ (p : List ℕ). Does g.E.Engine g.D.Disk.meaning (code_of g.E.Engine c.args.self.now) c.args.self.now.saver
    c.answer.new.self n1 place p
    (served (code_of g.E.Engine c.args.self.now) (setup_of c.args.self.now) n1 place h.wish a.mishap) c.datagram.new.out
    c.answer.new.out c.args.disk.now c.answer.new.disk)
    c.rest_of.ensures a.does)))
    heard
