use Rattle.std.proofs.Common.{◌==◌, ◌<◌, not, length, sym, subst}
use Rattle.comp_tree.proofs.SubtreeLemmas.{filter_room}
use Rattle.comp_tree.proofs.leaving.children_without.Goals as goal

pub push-requires : goal.push-requires
push-requires c =
    subst (λ xs. length xs < 200) (sym c.loop-child.invariant)
    (filter_room (λ child. not (child == c.args.id.0)) c.args.children.now c.loop-child.child-index 200 c.loop-child-test.true c.requires)
