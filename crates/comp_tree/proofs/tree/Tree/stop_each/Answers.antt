use Rattle.std.proofs.Common.{ℤ, ◌≡◌, IsTrue, get_or, to_z, of_z, w64, refl, sym, ap, ◌∙◌}
use Rattle.std.proofs.Math.ListN.{drop_of_length-le}
use Rattle.std.proofs.lemmas.Grind.{get_or_default_zero}
use Rattle.std.proofs.lemmas.Int.{to_z-of_z}
use Rattle.sed_engine.specs.declared.call.Callback.TheVariants.{Stop}
use Rattle.comp_tree.specs.Application.{Components, is_live}
use Rattle.comp_tree.specs.Calls.{Call}
use Rattle.comp_tree.specs.Held.{components_of}
use Rattle.comp_tree.proofs.DeleteLemmas.{call_live, calls, calls_are, calls_step}
use Rattle.comp_tree.specs.Marks.{values_at, values_of_all}
use Rattle.comp_tree.proofs.MarkDelete.{values_of_next}
use Rattle.comp_tree.proofs.MarkCalls.{keeps_same, keeps_then}
use Rattle.comp_tree.proofs.SameCodes.{same_still, same_yet}
use Rattle.comp_tree.proofs.SubtreeLemmas.{one_of}
use Rattle.comp_tree.proofs.tree.Tree.stop_each.Goals as goal

pub loop-id-init : goal.loop-id-init
loop-id-init g c = record { left = refl; live = λ q. refl; marks = keeps_same g.E.Engine (values_of_all c.args.ids.now) c.args.self.now c.args.self.now refl; same = same_yet }

pub callback-end-requires : goal.callback-end-requires
callback-end-requires g c =
    let ids = c.args.ids.now in
    let x = get_or ids c.loop-id.id-index 0 in
    c.loop-id.invariant.live x
    ∙ one_of (λ y. IsTrue (is_live (components_of g.E.Engine c.args.self.now).by_id y)) ids c.loop-id.id-index x c.requires c.loop-id-test.true (sym (get_or_default_zero ids c.loop-id.id-index x c.loop-id-test.true))

pub loop-id-preserved : goal.loop-id-preserved
loop-id-preserved g c =
    let m = g.E.Engine.meaning c.args.self.now.engine in
    let t = to_z w64 (of_z w64 c.args.ticks) in
    let ids = c.args.ids.now in
    let k = c.loop-id.id-index in
    let x = get_or ids k 0 in
    let a = components_of g.E.Engine c.loop-id.self in
    let left = c.callback-end.ensures.left ∙ ap (λ n. (Call n a x Stop 0 c.args.turns t).left) c.loop-id.invariant.same.meaning in
    record {
      left = calls_step m Stop c.args.turns t a (components_of g.E.Engine c.callback-end.new.self) (calls m Stop c.args.turns t (components_of g.E.Engine c.args.self.now) ids) ids k x c.loop-id-test.true
          (sym (get_or_default_zero ids k x c.loop-id-test.true)) left c.loop-id.invariant.left;
      live = λ q. ap (λ (b : Components). is_live b.by_id q) left ∙ call_live m Stop c.args.turns t a x q ∙ c.loop-id.invariant.live q;
      marks = keeps_then g.E.Engine (values_of_all ids) (values_at x) (values_of_all ids) c.args.self.now c.loop-id.self c.callback-end.new.self c.loop-id.invariant.marks c.callback-end.ensures.marks
          (λ q live. sym (call_live m Stop c.args.turns t a x q) ∙ ap (λ (b : Components). is_live b.by_id q) (sym left) ∙ live)
          (λ q part live either. values_of_next ids k x c.loop-id-test.true (sym (get_or_default_zero ids k x c.loop-id-test.true)) q part either);
      same = same_still c.loop-id.invariant.same c.callback-end.ensures.same;
    }

pub returns-clause-left : goal.returns-clause-left
returns-clause-left g c =
    let m = g.E.Engine.meaning c.args.self.now.engine in
    let t = to_z w64 (of_z w64 c.args.ticks) in
    let same : to_z w64 (of_z w64 c.args.ticks) ≡ c.args.ticks = to_z-of_z w64 c.args.ticks c.ranges.ticks in
    sym (ap (calls m Stop c.args.turns t (components_of g.E.Engine c.loop-id.self)) (drop_of_length-le c.args.ids.now c.loop-id-test.false)) ∙ c.loop-id.invariant.left
    ∙ ap (λ (u : ℤ). calls m Stop c.args.turns u (components_of g.E.Engine c.args.self.now) c.args.ids.now) same
    ∙ sym (calls_are m Stop c.args.turns c.args.ticks (components_of g.E.Engine c.args.self.now) c.args.ids.now)
