use Rattle.std.proofs.Common.{ℕ, List, IsSome, is_some, take, get_or, refl, sym, ap, ◌∙◌}
use Rattle.std.proofs.lemmas.Grind.{get_or_default_zero}
use Rattle.std.specs.FinMap as map
use Rattle.comp_tree.specs.Edits.{without_all}
use Rattle.comp_tree.specs.Held.{by_id_of}
use Rattle.comp_tree.proofs.SameCodes.{same_still, same_yet}
use Rattle.comp_tree.proofs.ShapeLemmas.{once_from}
use Rattle.comp_tree.proofs.SubtreeLemmas.{get_stays, once_before, one_of, take_all, taken_next, without_more, without_none}
use Rattle.comp_tree.proofs.leaving.remove_each.Goals as goal

pub loop-id-init : goal.loop-id-init
loop-id-init g c = record {
  placed = c.requires.placed;
  nodes = sym (without_none c.args.nodes.now);
  by_id = sym (without_none (by_id_of (g.E.Engine.live c.args.engine.now) c.args.nodes.now));
  statics = refl;
  same = same_yet;
}

pub remove_one-requires-clause-placed : goal.remove_one-requires-clause-placed
remove_one-requires-clause-placed g c = c.loop-id.invariant.placed

pub remove_one-requires-clause-there : goal.remove_one-requires-clause-there
remove_one-requires-clause-there g c =
    let ids = c.args.ids.now in
    let k = c.loop-id.id-index in
    let x = get_or ids k 0 in
    let is = sym (get_or_default_zero ids k x c.loop-id-test.true) in
    ap is_some (ap (λ n. map.get n x) c.loop-id.invariant.nodes ∙ get_stays (take k ids) c.args.nodes.now x (once_before ids k x (once_from ids c.requires.once) c.loop-id-test.true is))
    ∙ one_of (λ y. IsSome (map.get c.args.nodes.now y)) ids k x c.requires.there c.loop-id-test.true is

pub loop-id-preserved : goal.loop-id-preserved
loop-id-preserved g c =
    let ids = c.args.ids.now in
    let k = c.loop-id.id-index in
    let x = get_or ids k 0 in
    let all = by_id_of (g.E.Engine.live c.args.engine.now) c.args.nodes.now in
    let next = sym (taken_next ids k x c.loop-id-test.true (sym (get_or_default_zero ids k x c.loop-id-test.true))) in
    record {
      placed = c.remove_one.ensures.placed;
      nodes = c.remove_one.ensures.nodes ∙ ap (λ n. map.remove n x) c.loop-id.invariant.nodes ∙ sym (without_more (take k ids) x c.args.nodes.now) ∙ ap (λ (xs : List ℕ). without_all xs c.args.nodes.now) next;
      by_id = c.remove_one.ensures.by_id ∙ ap (λ n. map.remove n x) c.loop-id.invariant.by_id ∙ sym (without_more (take k ids) x all) ∙ ap (λ (xs : List ℕ). without_all xs all) next;
      statics = c.remove_one.ensures.statics ∙ c.loop-id.invariant.statics;
      same = same_still c.loop-id.invariant.same c.remove_one.ensures.same;
    }

pub returns-clause-nodes : goal.returns-clause-nodes
returns-clause-nodes g c = c.loop-id.invariant.nodes ∙ ap (λ (xs : List ℕ). without_all xs c.args.nodes.now) (take_all c.args.ids.now c.loop-id.id-index c.loop-id-test.false)

pub returns-clause-by_id : goal.returns-clause-by_id
returns-clause-by_id g c =
    c.loop-id.invariant.by_id
    ∙ ap (λ (xs : List ℕ). without_all xs (by_id_of (g.E.Engine.live c.args.engine.now) c.args.nodes.now)) (take_all c.args.ids.now c.loop-id.id-index c.loop-id-test.false)
