use Rattle.std.proofs.Common.{◌≡◌, true, refl, sym, ◌∙◌, subst, take, arith}
use Rattle.sed_engine.specs.Code.{Meaning}
use Rattle.comp_tree.specs.Whole.{Whole}
use Rattle.sox_events.specs.Due.{AllMarksAgree, all_of_them, before_it, subscriptions}
use Rattle.node_events.specs.Events.{Telling, bytes_of, told}
use Rattle.sed_node.specs.Doing.{IsTold}
use Rattle.sed_node.specs.Standing.{code_of}
use Rattle.sed_node.specs.declared.kept.Kept.{Kept}
use Rattle.sed_node.proofs.Keeping.{kept_by}
use Rattle.sed_wire.proofs.WritingLemmas.{puts-taken}
use Rattle.sed_node.proofs.Turns.{all_told_by_none, all_told_by_room, event_told, first_reached, lives_of, next_reached}
use Rattle.sed_node.proofs.Turns.{second_true}
use Rattle.sed_node.proofs.kept.Kept.tell.Goals as goal

pub events-init : goal.events-init
events-init g c = record {
  is_kept = c.requires.is_kept;
  same = record { code = refl; setup = refl; fixed = refl };
  live = c.requires.live;
  most = c.requires.most;
  room = c.requires.room;
  told = first_reached g.E.Engine (code_of g.E.Engine c.args.self.now) c.args.place c.args.self.now c.args.out.now;
}

pub events-preserved : goal.events-preserved
events-preserved g c =
    let i = c.events.invariant in
    let e = c.in-Some.ensures.event in
    let id = e.0 in
    let part = e.1 in
    let gives = e.2 in
    let m = code_of g.E.Engine c.args.self.now in
    let place = c.args.place in
    let subs = subscriptions c.events.self.subs in
    let what = c.events_are_of_what_differs.ensures.event c.events.self.app c.next_event.new.app subs
    (subscriptions c.next_event.new.self) place (before_it id part) id part
    c.in-Some.count c.events.text c.next_event.new.into gives
    (c.agreement_is_of_the_live.ensures c.events.self.app subs i.is_kept.agree) in
    let new : Kept _ = record {
      app = c.next_event.new.app;
      sessions = c.post.new.self;
      subs = c.next_event.new.self;
      saver = c.events.self.saver;
      turns = c.events.self.turns;
    } in
    let may : c.may_tell.result ≡ true = c.events-test.true in
    record {
      is_kept = kept_by g.E.Engine c.events.self _ i.is_kept gives.meaning
          (subst (Whole (code_of g.E.Engine c.events.self)) (sym gives.stays) i.is_kept.whole)
          (c.events_keep_agreement.ensures.event c.events.self.app c.next_event.new.app subs
          (subscriptions c.next_event.new.self) place (before_it id part) id part
          c.in-Some.count c.events.text c.next_event.new.into gives i.is_kept.agree)
          c.next_event.ensures.room;
      same = record { code = gives.meaning ∙ i.same.code; setup = i.same.setup; fixed = gives.steady ∙ i.same.fixed };
      live = c.post.ensures.live;
      most = (let waits = c.post.ensures.waits in let few =
          c.may_tell.ensures.room (sym c.may_tell.ensures.may ∙ may) in omega (arith, waits, few));
      room = (let waits = c.post.ensures.waits in let one = c.post.ensures.one in let room = i.room in
          omega (arith, waits, one, room));
      told = λ start is only.
          let r = i.told start is only in
          next_reached g.E.Engine c.events_are_of_the_application.ensures.bytes
          c.events_are_of_the_application.ensures.due m c.events.self i.same.code place c.events.out start r
          new id part c.post.new.out
          (second_true _ _ (sym (c.may_tell.ensures.stands r.now.node.sessions r.is_told.holds.sessions) ∙ may))
          (lives_of g.E.Engine c.events.self.app subs place id part what.0) what.0 what.1
          (subst (λ (x : Meaning). IsTold g.E.Engine new
          (told place id part (bytes_of x r.now.node.application id part) r.now) c.post.new.out) i.same.code
          (event_told g.E.Engine c.events_are_of_the_application.ensures.bytes
          c.events_are_of_the_application.ensures.due c.events.self new place id part
          c.events.out c.post.new.out (take c.in-Some.count c.next_event.new.into) r.now r.is_told gives.stays
          gives.posted (puts-taken _ _ _ _ gives.text)
          c.post.ensures.leaves))
          (λ t p. c.only_open_sessions_have_subscribed.ensures.part m t place p);
    }

pub returns-in-None-clause-is_kept : goal.returns-in-None-clause-is_kept
returns-in-None-clause-is_kept g c =
    let i = c.events.invariant in
    let none = c.in-None.ensures.event in
    kept_by g.E.Engine c.events.self _ i.is_kept none.0.meaning
    (subst (Whole (code_of g.E.Engine c.events.self)) (sym none.0.stays) i.is_kept.whole)
    (subst (AllMarksAgree g.E.Engine c.next_event.new.app) (sym none.1)
    (c.events_keep_agreement.ensures.none c.events.self.app c.next_event.new.app (subscriptions c.events.self.subs)
    c.args.place all_of_them none.0 i.is_kept.agree))
    c.next_event.ensures.room

pub returns-in-None-clause-same : goal.returns-in-None-clause-same
returns-in-None-clause-same g c =
    let i = c.events.invariant in
    let none = c.in-None.ensures.event in
    record { code = none.0.meaning ∙ i.same.code; setup = i.same.setup; fixed = none.0.steady ∙ i.same.fixed }

pub returns-in-None-clause-told : goal.returns-in-None-clause-told
returns-in-None-clause-told g c = λ start is only.
    let i = c.events.invariant in
    let none = c.in-None.ensures.event in
    let r = i.told start is only in
    let new : Kept _ = record c.events.self { app = c.next_event.new.app; subs = c.next_event.new.self } in
    let nothing = c.events_are_of_what_differs.ensures.none c.events.self.app c.next_event.new.app
    (subscriptions c.events.self.subs) c.args.place all_of_them none.0
    (c.agreement_is_of_the_live.ensures c.events.self.app (subscriptions c.events.self.subs) i.is_kept.agree) in
    subst (λ (t : Telling). IsTold g.E.Engine new t c.events.out)
    (all_told_by_none g.E.Engine c.events_are_of_the_application.ensures.bytes
    c.events_are_of_the_application.ensures.due (code_of g.E.Engine c.args.self.now) c.events.self i.same.code
    c.args.place
    c.events.out start r (λ id part. nothing id part refl)) (record {
      holds = record {
        application = none.0.stays ∙ r.is_told.holds.application;
        sessions = r.is_told.holds.sessions;
        subscribed = none.1 ∙ r.is_told.holds.subscribed;
      };
      sends = r.is_told.sends;
    })

pub returns-clause-told : goal.returns-clause-told
returns-clause-told g c = λ start is only.
    let i = c.events.invariant in
    let r = i.told start is only in
    subst (λ (t : Telling). IsTold g.E.Engine c.events.self t c.events.out)
    (all_told_by_room g.E.Engine c.events_are_of_the_application.ensures.bytes
    c.events_are_of_the_application.ensures.due (code_of g.E.Engine c.args.self.now) c.events.self i.same.code
    c.args.place
    c.events.out start r (sym (c.may_tell.ensures.stands r.now.node.sessions r.is_told.holds.sessions)
    ∙ c.events-test.false)) r.is_told

pub returns-clause-room : goal.returns-clause-room
returns-clause-room g c = let room = c.events.invariant.room in let most = c.events.invariant.most in
    omega (arith, room, most)
