use Rattle.std.proofs.Common.{◌≡◌, length, arith, sym, refl}
use Rattle.comp_tree.specs.Application.{children_of}
use Rattle.comp_tree.specs.Held.{components_of}
use Rattle.comp_tree.specs.Parts.{u2}
use Rattle.sed_wire.proofs.WritingLemmas.{room-after}
use Rattle.app_parts.proofs.SoFar.{next_got}
use Rattle.app_parts.proofs.tree.put_children.Goals as goal

pub loop-n-preserved : goal.loop-n-preserved
loop-n-preserved g c =
    let children = children_of (components_of g.E.Engine c.args.tree.now).by_id c.args.id.0 in
    let s = c.loop-n.invariant in
    let two : length (u2 c.in-Some.child.0) ≡ 2 = refl in
    let room = s.1 in
    let after = room-after _ _ (u2 c.in-Some.child.0) c.put_u2.ensures.bytes in
    (next_got u2 _ _ _ children c.loop-n.n c.in-Some.child.0 s.0 c.put_u2.ensures.bytes (sym c.in-Some.ensures), omega (arith, two, room, after))
