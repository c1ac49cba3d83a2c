use Rattle.std.proofs.Common.{get_or, take, sym, subst}
use Rattle.std.proofs.lemmas.List.{take_more}
use Rattle.kit_manifest.specs.Links.{Reaches}
use Rattle.kit_manifest.proofs.Marks.{Reaches-more}
use Rattle.kit_manifest.proofs.links.reach.Goals as goal

pub loop-place-preserved : goal.loop-place-preserved
loop-place-preserved c =
    let places = c.args.places.now in
    let index = c.loop-place.place-index in
    subst (λ done. Reaches done c.args.reached.now.items c.reach_one.new.reached.items c.args.waiting.now.items c.reach_one.new.waiting.items)
    (sym (take_more places index 0 c.loop-place-test.true))
    (Reaches-more (take index places) (get_or places index 0) c.args.reached.now.items c.loop-place.reached.items c.reach_one.new.reached.items
    c.args.waiting.now.items c.loop-place.waiting.items c.reach_one.new.waiting.items c.loop-place.invariant c.in_ok-reach_one.ensures)
