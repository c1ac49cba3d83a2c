use Rattle.std.proofs.Common.{sym, ap, subst, ◌∙◌}
use Rattle.std.specs.FinMap as map
use Rattle.comp_tree.specs.Held.{IsPlaced, by_id_of}
use Rattle.comp_tree.proofs.HeldLemmas.{by_id-remove, placed_remove}
use Rattle.comp_tree.proofs.leaving.remove_one.Goals as goal

pub returns-clause-placed : goal.returns-clause-placed
returns-clause-placed g c =
    let m = g.E.Engine.meaning c.args.engine.now in
    let l = g.E.Engine.live c.args.engine.now in
    subst (λ n. IsPlaced n (g.E.Engine.live c.remove-2.new.self) c.remove.new.self) (sym c.remove-2.ensures.meaning)
    (subst (λ k. IsPlaced m k c.remove.new.self) (sym c.remove-2.ensures.removed)
    (subst (IsPlaced m (map.remove l c.in-Some.node.place.0)) (sym c.remove.ensures.removed)
    (placed_remove m l c.args.nodes.now c.requires.placed c.args.id.0 c.in-Some.node (sym c.in-Some.ensures.value))))

pub returns-clause-by_id : goal.returns-clause-by_id
returns-clause-by_id g c =
    let m = g.E.Engine.meaning c.args.engine.now in
    let l = g.E.Engine.live c.args.engine.now in
    ap (λ k. by_id_of k c.remove.new.self) c.remove-2.ensures.removed ∙ ap (by_id_of (map.remove l c.in-Some.node.place.0)) c.remove.ensures.removed
    ∙ by_id-remove m l c.args.nodes.now c.requires.placed c.args.id.0 c.in-Some.node (sym c.in-Some.ensures.value)
