use Rattle.std.proofs.Common.{◌≡◌, ◌∙◌, ℕ, ap, sym, map}
use Rattle.sed_engine.specs.Stops.{map_ok, and_then}
use Rattle.sed_engine.specs.Values.{Spot, spot_of}
use Rattle.sed_engine.specs.State.{State}
use Rattle.sed_engine.specs.Steps.{inside, read_spot}
use Rattle.sed_engine.specs.Texts.{index_of}
use Rattle.sed_engine.specs.Places.{fetch as fetch_of, static_spot, OfElement}
use Rattle.walk_steps.specs.declared.targets.Target.{Target}
use Rattle.walk_steps.specs.Seen.{seen}
use Rattle.walk_steps.specs.Stored.{state_of}
use Rattle.walk_steps.specs.Targets.{target_seen}
use Rattle.walk_steps.proofs.Reaches.{field-element-is}
use Rattle.walk_steps.proofs.targets.fetch.Goals as goal

pub returns-in-Static : goal.returns-in-Static
returns-in-Static c =
    let plan = c.args.plan.now in
    let class = c.args.class in
    let s : State = state_of plan class c.args.store.now c.args.locals.now in
    c.read_static.ensures (map (seen plan class) c.args.locals.now)
    ∙ ap (λ (n : ℕ). read_spot (static_spot n) s) c.from-in-Static.ensures
    ∙ ap (λ (t : Target). fetch_of (target_seen plan class t) s) (sym c.in-Static.is)

pub returns-in-Element : goal.returns-in-Element
returns-in-Element c =
    let plan = c.args.plan.now in
    let class = c.args.class in
    let s : State = state_of plan class c.args.store.now c.args.locals.now in
    let p = c.in-Element in
    let object = seen plan class p.object in
    let index = seen plan class p.index in
    let count = c.from-in-Element.result in
    let number = c.from-in-Element-2.result in
    c.read-in-Element.ensures (map (seen plan class) c.args.locals.now) (and_then (spot_of object) (λ spot. map_ok (λ k. inside (inside spot number) k) (index_of count index))) c.element-found.ensures
    ∙ sym (field-element-is s count object number index (λ spot s1. read_spot spot s1))
    ∙ ap (λ (n : ℕ). fetch_of (OfElement p.field-0 n object number index) s) c.from-in-Element.ensures
    ∙ ap (λ (n : ℕ). fetch_of (OfElement p.field-0 p.count object n index) s) c.from-in-Element-2.ensures
    ∙ ap (λ (t : Target). fetch_of (target_seen plan class t) s) (sym p.is)
