use Rattle.std.proofs.Common.{◌≡◌, length, refl, sym, arith}
use Rattle.comp_tree.specs.Parts.{link_bytes}
use Rattle.sed_wire.proofs.WritingLemmas.{room-after}
use Rattle.app_parts.proofs.SoFar.{next_got}
use Rattle.app_writer.proofs.writing.put_links.Goals as goal

pub loop-n-preserved : goal.loop-n-preserved
loop-n-preserved g c =
    let l = c.in-Some.link in
    let s = c.loop-n.invariant in
    let six : length (link_bytes l) ≡ 6 = refl in
    let room = s.1 in
    let after = room-after _ _ (link_bytes l) c.put_link.ensures in
    (next_got link_bytes _ _ _ c.args.app.now.links c.loop-n.n l s.0 c.put_link.ensures (sym c.in-Some.ensures), omega (arith, six, room, after))
