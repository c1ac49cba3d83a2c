use Rattle.std.proofs.Common.{◌≡◌, true, arith, subst}
use Rattle.std.proofs.lemmas.List.{take_all}
use Rattle.std.proofs.lemmas.List.Elements.{All-more}
use Rattle.kit_manifest.specs.Links.{is_marked, AreMarked}
use Rattle.kit_manifest.proofs.links.first_unmarked.Goals as goal

pub loop-place-preserved : goal.loop-place-preserved
loop-place-preserved c =
    All-more (λ i. is_marked c.args.marks.now i ≡ true) c.args.places.now c.loop-place.place-index 0 c.loop-place-test.true c.loop-place.invariant c.if-not-marks-place.false

pub returns : goal.returns
returns c = subst (AreMarked c.args.marks.now) (take_all c.loop-place.place-index c.args.places.now (omega arith)) c.loop-place.invariant
