use Rattle.std.proofs.Common.{true, sym, ◌∙◌, inl, inr, subst, length-set}
use Rattle.kit_manifest.specs.Links.{IsLink}
use Rattle.kit_manifest.specs.Walk.{Walk, one_step}
use Rattle.kit_manifest.proofs.Marks.{is_marked-set_cases}
use Rattle.kit_manifest.proofs.Walks.{Walk-step}
use Rattle.kit_manifest.proofs.links.place_on_cycle.Goals as goal

pub loop-seen-preserved : goal.loop-seen-preserved
loop-seen-preserved c = record {
  same_length = length-set c.loop-seen.seen.items c.loop-seen.place true ∙ c.loop-seen.invariant.same_length;
  within = c.next_left-place.ensures.within;
  left = c.next_left-place.ensures.left;
  led = λ i marked. elim (is_marked-set_cases c.loop-seen.seen.items c.loop-seen.place i marked) [
    | inl before ↦ Walk-step (IsLink c.args.links.now) i c.loop-seen.place c.next_left-place.result (c.loop-seen.invariant.led i before) c.next_left-place.ensures.link
    | inr same ↦ subst (λ j. Walk (IsLink c.args.links.now) j c.next_left-place.result) (sym same) (one_step c.loop-seen.place c.next_left-place.result c.next_left-place.ensures.link)
  ];
}
