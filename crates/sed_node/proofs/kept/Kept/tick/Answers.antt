use Rattle.std.proofs.Common.{rules, ℤ, FitsSigned, of_z, to_z, w64, [], ◌∷◌, refl, sym, ◌∙◌, ap, subst}
use Rattle.sed_engine.specs.Code.{Meaning}
use Rattle.comp_tree.specs.Application.{Application}
use Rattle.comp_tree.specs.Cycle.{Cycle, Cycled}
use Rattle.comp_tree.specs.Whole.{Whole}
use Rattle.link_prop.specs.Linked.{application_of}
use Rattle.sox_events.specs.Due.{subscriptions}
use Rattle.dasp_session.specs.Receive.{advanced}
use Rattle.node_events.specs.Node.{Node}
use Rattle.node_events.specs.Running.{passes}
use Rattle.node_events.specs.Ticking.{advanced_to, at_places, cycle_of}
use Rattle.sed_node.specs.Doing.{IsTold}
use Rattle.sed_node.specs.Standing.{code_of, setup_of}
use Rattle.std.proofs.lemmas.Int.{to_z-of_z}
use Rattle.dasp_session.specs.Standing.{StandsFor as SessionsStandFor}
use Rattle.sed_node.proofs.Keeping.{kept_by}
use Rattle.sed_node.proofs.Sending.{at_most}
use Rattle.sed_node.proofs.kept.Kept.tick.Goals as goal

pub visit_all-requires-clause-is_kept : goal.visit_all-requires-clause-is_kept
visit_all-requires-clause-is_kept g c =
    let kept = c.requires.stands.1.is_kept in
    let m = code_of g.E.Engine c.args.self.now in
    kept_by g.E.Engine c.args.self.now _ kept c.cycle-end.ensures.same.meaning
    (subst (λ (x : Cycled). Whole m x.application) (sym c.cycle-end.ensures.cycled)
    (c.a_cycle_keeps_whole.ensures.cycle m (application_of g.E.Engine c.args.self.now.app) c.args.self.now.turns _
    kept.code kept.whole))
    (c.agreement_lasts.ensures c.args.self.now.app c.cycle-end.new.app (subscriptions c.args.self.now.subs)
    c.cycle-end.ensures.marks.tells kept.agree)
    (λ part. refl)

pub returns : goal.returns
returns g c = record {
  ticks = λ n stands.
      let m : Meaning = code_of g.E.Engine c.args.self.now in
      let s = setup_of c.args.self.now in
      let now : Node = advanced_to c.args.ticks n in
      let fits : FitsSigned w64 c.moment-moment.result = search rules in
      let sessions = subst (λ (t : ℤ). SessionsStandFor c.advance.new.self (advanced n.sessions t))
      (to_z-of_z w64 c.args.ticks c.ranges.ticks)
      (c.advance.ensures.stands n.sessions stands.holds.sessions) in
      let cycled = c.cycle-end.ensures.cycled
      ∙ ap (λ (a : Application). Cycle m a c.args.self.now.turns (to_z w64 (of_z w64 c.moment-moment.result)))
      stands.holds.application
      ∙ ap (λ (t : ℤ). Cycle m n.application c.args.self.now.turns t)
      (to_z-of_z w64 c.moment-moment.result fits ∙ c.moment-moment.ensures now.sessions sessions) in
      let after : Node = record now { application = (cycle_of m s now).application } in
      let told = subst (λ (x : Meaning). IsTold g.E.Engine c.visit_all.new.self (at_places x after) c.visit_all.new.out)
      c.cycle-end.ensures.same.meaning
      (c.visit_all.ensures.told after (record {
        application = ap (λ (x : Cycled). x.application) cycled;
        sessions = sessions;
        subscribed = stands.holds.subscribed;
      }) stands.only_open) in
      let same = c.visit_all.ensures.same in
      record {
        stands = record {
          holds = told.holds;
          is_kept = c.visit_all.ensures.is_kept;
          only_open = c.only_open_sessions_have_subscribed.ensures.run m s n (passes c.args.ticks ∷ [])
              stands.only_open;
          windows = c.few_messages_are_sent.ensures.run m s n (passes c.args.ticks ∷ []) stands.windows;
        };
        same = record {
          code = same.code ∙ c.cycle-end.ensures.same.meaning;
          setup = same.setup;
          fixed = same.fixed
              ∙ c.cycle-end.ensures.same.steady;
        };
        sends = told.sends;
        few = at_most 496 _ _ told.sends (c.few_messages_are_sent.ensures.tick m s n c.args.ticks stands.windows);
        traps_are = ap (λ (x : Cycled). x.traps) cycled;
      };
}
