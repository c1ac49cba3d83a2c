use Rattle.std.proofs.Common.{rules, ◌≡◌, true, false, sym, ◌∙◌, refl, arith}
use Rattle.sox_events.specs.Due.{subscriptions}
use Rattle.dasp_session.specs.Looking.{session_at}
use Rattle.node_events.specs.Events.{told_all}
use Rattle.node_events.specs.Ticking.{timed}
use Rattle.sed_node.specs.Standing.{code_of}
use Rattle.sed_node.specs.declared.kept.Kept.{Kept}
use Rattle.sed_node.proofs.Keeping.{kept_by}
use Rattle.sed_node.proofs.Visits.{ended_by, goes_by, nobody_in, visit_ended, visit_kept, visit_nobody, visit_timed}
use Rattle.sed_node.proofs.kept.Kept.visit.Goals as goal

pub returns-then-not-is_live-clause-told : goal.returns-then-not-is_live-clause-told
returns-then-not-is_live-clause-told g c = λ t is only.
    let none : c.is_live.result ≡ false = search rules in
    visit_nobody g.E.Engine (code_of g.E.Engine c.args.self.now) c.args.place t c.args.self.now c.args.out.now is
    (nobody_in (session_at t.node.sessions c.args.place)
    (sym none ∙ c.is_live.ensures.stands t.node.sessions is.holds.sessions))

pub returns-then-not-is_live-clause-same : goal.returns-then-not-is_live-clause-same
returns-then-not-is_live-clause-same g c = record { code = refl; setup = refl; fixed = refl }

pub returns-then-not-tick-clause-told : goal.returns-then-not-tick-clause-told
returns-then-not-tick-clause-told g c = λ t is only.
    let told : c.tick.result ≡ false = search rules in
    visit_ended g.E.Engine (code_of g.E.Engine c.args.self.now) c.args.place t c.args.self.now _ c.args.out.now
    c.tick.new.out is refl
    (c.tick.ensures.leaves t.node.sessions is.holds.sessions)
    (ended_by c.tick.result _ (c.tick.ensures.answer t.node.sessions is.holds.sessions) told)
    c.drop_session.ensures.after

pub returns-then-not-tick-clause-is_kept : goal.returns-then-not-tick-clause-is_kept
returns-then-not-tick-clause-is_kept g c =
    kept_by g.E.Engine c.args.self.now _ c.requires.is_kept refl c.requires.is_kept.whole
    (c.subscribing_keeps_agreement.ensures.no_session c.args.self.now.app (subscriptions c.args.self.now.subs)
    (subscriptions c.drop_session.new.self) c.args.place
    c.drop_session.ensures.after c.requires.is_kept.agree)
    c.drop_session.ensures.room

pub returns-then-not-tick-clause-same : goal.returns-then-not-tick-clause-same
returns-then-not-tick-clause-same g c = record { code = refl; setup = refl; fixed = refl }

pub tell-requires-clause-is_kept : goal.tell-requires-clause-is_kept
tell-requires-clause-is_kept g c =
    kept_by g.E.Engine c.args.self.now _ c.requires.is_kept refl c.requires.is_kept.whole c.requires.is_kept.agree
    (λ part. refl)

pub tell-requires-clause-room : goal.tell-requires-clause-room
tell-requires-clause-room g c =
    let on : c.tick.result ≡ true = search rules in let waits = c.tick.ensures.waits on in let room = c.requires.room in
    omega (arith, waits, room)

pub keep-requires-clause-room : goal.keep-requires-clause-room
keep-requires-clause-room g c = let room = c.tell.ensures.room in let place = c.requires.place in
    omega (arith, room, place)

pub returns-clause-is_kept : goal.returns-clause-is_kept
returns-clause-is_kept g c =
    kept_by g.E.Engine c.tell.new.self _ c.tell.ensures.is_kept refl c.tell.ensures.is_kept.whole
    c.tell.ensures.is_kept.agree (λ part. refl)

pub returns-clause-same : goal.returns-clause-same
returns-clause-same g c =
    record { code = c.tell.ensures.same.code; setup = c.tell.ensures.same.setup; fixed = c.tell.ensures.same.fixed }

pub returns-clause-told : goal.returns-clause-told
returns-clause-told g c = λ t is only.
    let on : c.tick.result ≡ true = search rules in
    let m = code_of g.E.Engine c.args.self.now in
    let place = c.args.place in
    let timed_self : Kept _ = record c.args.self.now { sessions = c.tick.new.self } in
    let after = visit_timed g.E.Engine m place t c.args.self.now timed_self c.args.out.now c.tick.new.out is refl
    (c.tick.ensures.leaves t.node.sessions is.holds.sessions)
    (goes_by c.tick.result _ (c.tick.ensures.answer t.node.sessions is.holds.sessions) on) refl in
    let told = c.tell.ensures.told (timed place t) after
    (c.only_open_sessions_have_subscribed.ensures.timed t place only) in
    visit_kept g.E.Engine m place (told_all m place (timed place t)) c.tell.new.self _ c.tell.new.out c.keep.new.out
    told refl refl
    (c.keep.ensures.leaves (told_all m place (timed place t)).node.sessions told.holds.sessions)
