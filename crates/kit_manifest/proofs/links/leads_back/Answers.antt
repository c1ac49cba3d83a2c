use Rattle.std.proofs.Common.{◌≡◌, ℕ, ◌<◌, length, arith, vec_len, sym, subst, ◌∙◌}
use Rattle.std.specs.Prelude.{Contains}
use Rattle.std.proofs.lemmas.Bool.{false≢true}
use Rattle.std.proofs.lemmas.List.Elements.{Contains-push}
use Rattle.kit_manifest.specs.Links.{is_marked, Reaches}
use Rattle.kit_manifest.proofs.Marks.{is_marked-read, marked_within}
use Rattle.kit_manifest.proofs.Seeks.{Seeks-start, Seeks-more, Seeks-back}
use Rattle.kit_manifest.proofs.links.leads_back.Goals as goal

pub loop-place-init : goal.loop-place-init
loop-place-init c =
    Seeks-start c.args.links.now c.args.from c.links_of.result.now c.in_ok-reached.reached.items c.reach.new.reached.items c.new-waiting.result.items c.reach.new.waiting.items
    c.links_of.ensures c.in_ok-reached.ensures c.new-waiting.ensures.items c.in_ok-reach.ensures

pub links_of-requires-in-Some : goal.links_of-requires-in-Some
links_of-requires-in-Some c =
    let waits : Contains c.loop-place.waiting.items c.in-Some.place = subst (λ l. Contains l c.in-Some.place) (sym c.in-Some.ensures.items) (Contains-push c.pop.new.self.items c.in-Some.place) in
    subst (λ n. c.in-Some.place < n) c.loop-place.invariant.same_length (marked_within c.loop-place.reached.items c.in-Some.place (c.loop-place.invariant.marked c.in-Some.place waits))

pub loop-place-preserved : goal.loop-place-preserved
loop-place-preserved c =
    Seeks-more c.args.links.now c.args.from c.in-Some.place c.loop-place.reached.items c.reach-in-Some.new.reached.items c.pop.new.self.items c.reach-in-Some.new.waiting.items c.loop-place.waiting.items
    c.loop-place.invariant c.in-Some.ensures.items
    (subst (λ p. Reaches p c.loop-place.reached.items c.reach-in-Some.new.reached.items c.pop.new.self.items c.reach-in-Some.new.waiting.items) c.links_of-in-Some.ensures c.in_ok-reach-2.ensures)

pub returns : goal.returns
returns c =
    let within : c.args.from < length c.loop-place.reached.items = subst (λ n. c.args.from < n) (sym c.loop-place.invariant.same_length) c.requires.within in
    let read : is_marked c.loop-place.reached.items c.args.from ≡ c.index.result.now = is_marked-read c.loop-place.reached.items c.args.from c.index.result.now within c.index.ensures in
    let empty : (i : ℕ) → Contains c.loop-place.waiting.items i → ⊥ = λ i (k, inside, is). let some : 0 < vec_len c.loop-place.waiting = omega (arith, c.loop-place.waiting.ok.0, inside) in false≢true (c.in_default.ensures.variant.1 some) in (
      λ yes. c.loop-place.invariant.led c.args.from (read ∙ yes),
      λ walk. sym read ∙ Seeks-back c.args.links.now c.args.from c.loop-place.reached.items c.loop-place.waiting.items c.loop-place.invariant empty walk,
    )
