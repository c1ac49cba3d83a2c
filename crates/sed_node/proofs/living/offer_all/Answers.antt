use Rattle.std.proofs.Common.{◌≡◌, ◌<◌, ℕ, List, [], ◌∷◌, length, take, refl, sym, ◌∙◌, ap, subst, arith}
use Rattle.std.specs.Prelude.{map, slice_index_or}
use Rattle.std.proofs.lemmas.List.{map-append, take_more}
use Rattle.std.proofs.Math.Seq.{take-length}
use Rattle.sed_outside.specs.declared.offer.Offer.{Offer}
use Rattle.sed_outside.specs.Told.{AddsWhereTold}
use Rattle.dasp_session.specs.Outbox.{Datagram}
use Rattle.sed_node.specs.Living.{offered_at}
use Rattle.sed_node.proofs.Lines.{nothing}
use Rattle.sed_node.proofs.Lives.{adds_both, adds_none}
use Rattle.sed_node.proofs.living.offer_all.Goals as goal

pub offers-init : goal.offers-init
offers-init g c = record { within = omega arith; offered = adds_none _; polls = refl; polled = refl; bound = refl }

pub offers-preserved : goal.offers-preserved
offers-preserved g c =
    let before = c.offers.invariant in
    let less = c.offers-test.true in
    let all = c.len-place-end.ensures in
    let within : c.offers.place < length c.args.outbox.now = omega (arith, less, all) in
    let now = slice_index_or c.args.outbox.now c.offers.place nothing in
    let at = g.L.Link.polled c.args.link.now in
    record {
      within = omega (arith, within);
      offered = subst (λ (all : List Offer). AddsWhereTold (g.L.Link.offered c.args.link.now)
          (g.L.Link.offered c.offer.new.link) all)
          (sym (ap (map (offered_at at)) (take_more c.args.outbox.now c.offers.place nothing within)
          ∙ map-append (offered_at at) (take c.offers.place c.args.outbox.now) (now ∷ [])))
          (adds_both (g.L.Link.offered c.args.link.now) (g.L.Link.offered c.offers.link)
          (g.L.Link.offered c.offer.new.link) (map (offered_at at) (take c.offers.place c.args.outbox.now))
          (offered_at at now ∷ []) before.offered
          (subst (λ (k : ℕ). AddsWhereTold (g.L.Link.offered c.offers.link) (g.L.Link.offered c.offer.new.link)
          (offered_at k now ∷ [])) before.polled (c.offer.ensures.offered nothing)));
      polls = c.offer.ensures.polls ∙ before.polls;
      polled = c.offer.ensures.polled ∙ before.polled;
      bound = c.offer.ensures.bound ∙ before.bound;
    }

pub returns-clause-offered : goal.returns-clause-offered
returns-clause-offered g c =
    let within = c.offers.invariant.within in
    let out = c.offers-test.false in
    let is = c.len-place-end.ensures in
    let all : c.offers.place ≡ length c.args.outbox.now = omega (arith, within, out, is) in
    subst (λ (xs : List Datagram). AddsWhereTold (g.L.Link.offered c.args.link.now) (g.L.Link.offered c.offers.link)
    (map (offered_at (g.L.Link.polled c.args.link.now)) xs)) (ap (λ (k : ℕ). take k c.args.outbox.now) all ∙ take-length c.args.outbox.now)
    c.offers.invariant.offered

pub returns-clause-polls : goal.returns-clause-polls
returns-clause-polls g c = c.offers.invariant.polls

pub returns-clause-polled : goal.returns-clause-polled
returns-clause-polled g c = c.offers.invariant.polled

pub returns-clause-bound : goal.returns-clause-bound
returns-clause-bound g c = c.offers.invariant.bound
