use Rattle.std.proofs.Common.{◌≡◌, length, ap, arith}
use Rattle.comp_tree.proofs.DeleteLemmas.{subtree_fits}
use Rattle.comp_tree.proofs.leaving.at_and_below.Goals as goal

pub gather-requires : goal.gather-requires
gather-requires c =
    let fits = subtree_fits c.args.nodes.now c.requires.tree c.args.id.0 c.requires.live c.requires.few in
    let none : length c.new-ids.result.items ≡ 0 = ap length c.new-ids.ensures in
    omega arith
