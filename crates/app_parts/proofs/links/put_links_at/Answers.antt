use Rattle.std.proofs.Common.{◌≡◌, length, arith, sym, ap, refl, length-append}
use Rattle.std.specs.List.{flat_map}
use Rattle.comp_tree.specs.Parts.{link_bytes, links_at}
use Rattle.sed_wire.proofs.WritingLemmas.{room-after}
use Rattle.app_parts.proofs.SoFar.{all_put, flat_map-end, length-so_far, next_got, none_more, none_yet}
use Rattle.app_parts.proofs.links.put_links_at.Goals as goal

pub loop-n-init : goal.loop-n-init
loop-n-init g c = (none_yet c.args.writer.now (flat_map link_bytes (links_at c.args.id.0 c.args.app.now.links)), omega arith, omega (arith, c.requires))

pub returns-in-None-clause-bytes : goal.returns-in-None-clause-bytes
returns-in-None-clause-bytes g c =
    let links = links_at c.args.id.0 c.args.app.now.links in
    all_put _ _ _ _ c.loop-n.invariant.0 (flat_map-end link_bytes links c.loop-n.n (none_more links c.loop-n.n c.in-None.ensures.link))

pub returns-in-None-clause-short : goal.returns-in-None-clause-short
returns-in-None-clause-short g c =
    let links = links_at c.args.id.0 c.args.app.now.links in
    let whole = length-so_far _ _ _ _ c.loop-n.invariant.0 in
    let less = c.loop-n.invariant.1 in
    let none = ap length (flat_map-end link_bytes links c.loop-n.n (none_more links c.loop-n.n c.in-None.ensures.link)) in
    let lt = c.loop-n-test.true in
    omega (arith, whole, less, none, lt)

pub loop-n-preserved : goal.loop-n-preserved
loop-n-preserved g c =
    let links = links_at c.args.id.0 c.args.app.now.links in
    let s = c.loop-n.invariant in
    let l = c.in-Some.link in
    let six : length (link_bytes l) ≡ 6 = refl in
    let front = length-append s.0.front (link_bytes l) in
    let less = s.1 in
    let room = s.2 in
    let after = room-after _ _ (link_bytes l) c.put_link.ensures in (
      next_got link_bytes _ _ _ links c.loop-n.n l s.0 c.put_link.ensures (sym c.in-Some.ensures.link),
      omega (arith, six, front, less),
      omega (arith, six, room, after),
    )

pub returns-clause-bytes : goal.returns-clause-bytes
returns-clause-bytes g c =
    let links = links_at c.args.id.0 c.args.app.now.links in
    let few = c.link_of-few.ensures.few in
    let out = c.loop-n-test.false in
    all_put _ _ _ _ c.loop-n.invariant.0 (flat_map-end link_bytes links c.loop-n.n (omega (arith, few, out)))

pub returns-clause-short : goal.returns-clause-short
returns-clause-short g c =
    let links = links_at c.args.id.0 c.args.app.now.links in
    let few = c.link_of-few.ensures.few in
    let out = c.loop-n-test.false in
    let whole = length-so_far _ _ _ _ c.loop-n.invariant.0 in
    let less = c.loop-n.invariant.1 in
    let none = ap length (flat_map-end link_bytes links c.loop-n.n (omega (arith, few, out))) in
    let end = c.loop-n.auto.n-end in
    omega (arith, whole, less, none, end)
