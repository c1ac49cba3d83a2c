use Rattle.std.proofs.Common.{◌≡◌, ◌≤◌, ℕ, ℤ, w64, sym, ◌∙◌, ap, subst, arith}
use mathlib.Core.Path.{fun_ext}
use Rattle.sed_engine.specs.Code.{Meaning}
use Rattle.sed_engine.specs.Whole.{IsWhole}
use Rattle.comp_tree.specs.Held.{Held}
use Rattle.comp_tree.specs.Cycle.{Begin, Cycled}
use Rattle.std.proofs.lemmas.Int.{to_z-of_z}
use Rattle.dasp_session.specs.Receive.{new_state}
use Rattle.dasp_session.specs.Standing.{StandsFor as SessionsStandFor}
use Rattle.comp_tree.specs.Whole.{Whole}
use Rattle.link_prop.specs.Linked.{application_of}
use Rattle.sed_typed.specs.declared.schema.Schema.{Schema}
use Rattle.sox_events.specs.Due.{longest, room_for}
use Rattle.node_events.specs.Node.{Setup, opened}
use Rattle.sed_node.specs.Standing.{StandsFor}
use Rattle.sed_node.proofs.node.Node.open.Goals.{After-begin}
use Rattle.sed_node.proofs.node.Node.open.Goals as goal

-- the node that has begun stands for the one that is opened
begun : (g : _) (c : After-begin g) → StandsFor g.E.Engine (record {
  app = c.begin.new.app;
  sessions = c.in_ok-sessions.sessions;
  subs = c.in_ok-subs.subs;
  saver = c.in_ok-saver.saver;
  turns = c.args.turns;
})
    (opened (g.E.Engine.meaning c.args.app.tree.engine) (record { turns = c.args.turns; slot = c.args.store })
    (application_of g.E.Engine c.args.app) c.args.users c.args.secret c.args.moment)
begun g c =
    let m = g.E.Engine.meaning c.args.app.tree.engine in
    let a = application_of g.E.Engine c.args.app in
    let s : Setup = record { turns = c.args.turns; slot = c.args.store } in
    let whole : IsWhole m = subst (λ (h : Held _). IsWhole (g.E.Engine.meaning h.engine)) c.tree.ensures
    c.schema-schema.ensures.whole in
    let same : c.schema-schema.result.now ≡ m.schema = subst (λ (h : Held _). c.schema-schema.result.now ≡ (g.E.Engine.meaning h.engine).schema)
    c.tree.ensures c.schema-schema.ensures.same in
    let begun = subst (λ (x : Cycled). Whole m x.application) (sym c.begin.ensures.begun)
    (c.a_cycle_keeps_whole.ensures.begin m a c.args.turns _ whole c.requires) in
    record {
      holds = record {
        application = ap (λ (x : Cycled). x.application) c.begin.ensures.begun
            ∙ ap (λ (t : ℤ). (Begin m a c.args.turns t).application) (to_z-of_z w64 c.args.moment c.ranges.moment);
        sessions = subst (λ (t : ℤ). SessionsStandFor c.in_ok-sessions.sessions
            (new_state c.args.users c.args.secret t)) (to_z-of_z w64 c.args.moment c.ranges.moment)
            c.in_ok-sessions.ensures;
        subscribed = fun_ext (λ p. fun_ext (λ i. fun_ext (λ part. c.in_ok-subs.ensures.none p i part)));
      };
      is_kept = record {
        code = subst IsWhole (sym c.begin.ensures.same.meaning) whole;
        whole = subst (λ (x : Meaning). Whole x (application_of g.E.Engine c.begin.new.app))
            (sym c.begin.ensures.same.meaning) begun;
        agree = c.subscribing_keeps_agreement.ensures.nothing _ _ c.in_ok-subs.ensures.none;
        room = λ part. subst (λ (x : Meaning). longest x.schema part ≤ room_for c.in_ok-subs.subs part)
            (sym c.begin.ensures.same.meaning)
            (subst (λ (n : ℕ). longest m.schema part ≤ n)
            (sym (c.in_ok-subs.ensures.room part ∙ ap (λ (s : Schema). longest s part) same)) (omega arith));
      };
      only_open = c.only_open_sessions_have_subscribed.ensures.opened m s a c.args.users c.args.secret c.args.moment;
      windows = c.few_messages_are_sent.ensures.opened m s a c.args.users c.args.secret c.args.moment;
    }

pub invariant_of-result : goal.invariant_of-result
invariant_of-result g c = (_, begun g (goal.at.invariant_of-result g c).After-begin)

pub returns-clause-opened : goal.returns-clause-opened
returns-clause-opened g c = begun g (goal.at.returns-clause-opened g c).After-begin
