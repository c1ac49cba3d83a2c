use Rattle.std.proofs.Common.{◌≡◌, ◌≤◌, ◌+◌, ℕ, ℤ, get_or, sym, ◌∙◌, ap, w64, to_z, of_z, arith}
use Rattle.std.proofs.lemmas.Int.{to_z-of_z}
use Rattle.sed_engine.specs.declared.call.Callback.TheVariants.{Start}
use Rattle.sed_engine.specs.Code.{Meaning}
use Rattle.comp_tree.specs.Application.{Components, is_live}
use Rattle.comp_tree.specs.Calls.{Call, call_each, then_run, traps_of}
use Rattle.comp_tree.specs.Held.{components_of}
use Rattle.comp_tree.proofs.SameCodes.{same_still}
use Rattle.link_prop.proofs.CallLemmas.{call_live}
use Rattle.link_prop.proofs.CountedCalls.{counted_all, counted_more}
use Rattle.link_prop.proofs.CycleMarks.{marked_again, marked_any}
use Rattle.link_prop.proofs.starts.start_all.Goals as goal

pub loop-id-preserved : goal.loop-id-preserved
loop-id-preserved g c =
    let m = g.E.Engine.meaning c.args.app.now.tree.engine in
    let t = to_z w64 (of_z w64 c.args.ticks) in
    let ids = c.args.ids.now in
    let k = c.loop-id.id-index in
    let x = get_or ids k 0 in
    let now = components_of g.E.Engine c.loop-id.app.tree in
    let left = c.callback.ensures.left ∙ ap (λ (n : Meaning). (Call n now x Start 0 c.args.turns t).left) c.loop-id.invariant.same.meaning in
    let traps = c.traps_of-traps.ensures.same ∙ ap traps_of c.callback.ensures.end ∙ ap (λ (n : Meaning). traps_of (Call n now x Start 0 c.args.turns t).end) c.loop-id.invariant.same.meaning in
    record {
      counted = counted_more (λ s id. then_run s (λ a. Call m a id Start 0 c.args.turns t)) (components_of g.E.Engine c.args.app.now.tree) now ids k c.loop-id.traps c.loop-id.invariant.counted
          0 c.traps_of-traps.result (components_of g.E.Engine c.callback.new.self.tree) c.loop-id-test.true (few c.traps_of-traps.ensures.few)
          (λ i. record { left = sym left i; traps = c.loop-id.traps + sym traps i });
      live = λ q. ap (λ (b : Components). is_live b.by_id q) left ∙ call_live m now x Start 0 c.args.turns t q ∙ c.loop-id.invariant.live q;
      marks = marked_again g.E.Engine c.args.app.now c.loop-id.app c.callback.new.self c.loop-id.invariant.marks (marked_any g.E.Engine x c.loop-id.app c.callback.new.self c.callback.ensures.marks)
          (λ q. ap (λ (b : Components). is_live b.by_id q) c.callback.ensures.left ∙ call_live (g.E.Engine.meaning c.loop-id.app.tree.engine) now x Start 0 c.args.turns t q);
      links = c.callback.ensures.links ∙ c.loop-id.invariant.links;
      same = same_still c.loop-id.invariant.same c.callback.ensures.same;
    }
  where
    few : {r : ℕ} → r ≤ 1 → r ≤ 8193
    few le = omega arith

pub returns-clause-started : goal.returns-clause-started
returns-clause-started g c =
    let m = g.E.Engine.meaning c.args.app.now.tree.engine in
    let same : to_z w64 (of_z w64 c.args.ticks) ≡ c.args.ticks = to_z-of_z w64 c.args.ticks c.ranges.ticks in
    let start = components_of g.E.Engine c.args.app.now.tree in
    ap (λ (u : ℤ). call_each m Start c.args.turns u start c.args.ids.now) (sym same)
    ∙ counted_all (λ s id. then_run s (λ a. Call m a id Start 0 c.args.turns (to_z w64 (of_z w64 c.args.ticks)))) start (components_of g.E.Engine c.loop-id.app.tree) c.args.ids.now c.loop-id.id-index c.loop-id.traps c.loop-id.invariant.counted c.loop-id-test.false
