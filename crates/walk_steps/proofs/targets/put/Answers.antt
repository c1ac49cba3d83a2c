use Rattle.std.proofs.Common.{◌≡◌, ◌∙◌, ℕ, ap, sym, map, Ok}
use Rattle.sed_engine.specs.Stops.{map_ok, and_then}
use Rattle.sed_engine.specs.Values.{Spot, spot_of}
use Rattle.sed_engine.specs.State.{State}
use Rattle.sed_engine.specs.Steps.{inside, write_spot}
use Rattle.sed_engine.specs.Texts.{index_of}
use Rattle.sed_engine.specs.Places.{put as put_of, static_spot, OfField, OfElement, OfStaticElement}
use Rattle.walk_steps.specs.declared.targets.Target.{Target}
use Rattle.walk_steps.specs.Seen.{seen}
use Rattle.walk_steps.specs.Stored.{state_of}
use Rattle.walk_steps.specs.Targets.{target_seen}
use Rattle.walk_steps.proofs.Reaches.{element-is, field-element-is}
use Rattle.walk_steps.proofs.targets.put.Goals as goal

pub returns-in-Static-clause-end : goal.returns-in-Static-clause-end
returns-in-Static-clause-end c =
    let plan = c.args.plan.now in
    let class = c.args.class in
    let v = seen plan class c.args.value in
    let s : State = state_of plan class c.args.store.now c.args.locals.now in
    c.write.ensures.end (map (seen plan class) c.args.locals.now) (Ok (static_spot c.from-in-Static.result)) c.static_field-found.ensures
    ∙ ap (λ (n : ℕ). write_spot c.in-Static.prim (static_spot n) v s) c.from-in-Static.ensures
    ∙ ap (λ (t : Target). put_of (target_seen plan class t) v s) (sym c.in-Static.is)

pub returns-in-Field-clause-end : goal.returns-in-Field-clause-end
returns-in-Field-clause-end c =
    let plan = c.args.plan.now in
    let class = c.args.class in
    let v = seen plan class c.args.value in
    let s : State = state_of plan class c.args.store.now c.args.locals.now in
    let p = c.in-Field in
    let object = seen plan class p.object in
    c.write_field.ensures.end (map (seen plan class) c.args.locals.now)
    ∙ ap (λ (n : ℕ). put_of (OfField p.prim object n) v s) c.from-in-Field.ensures
    ∙ ap (λ (t : Target). put_of (target_seen plan class t) v s) (sym p.is)

pub returns-in-Element-clause-end : goal.returns-in-Element-clause-end
returns-in-Element-clause-end c =
    let plan = c.args.plan.now in
    let class = c.args.class in
    let v = seen plan class c.args.value in
    let s : State = state_of plan class c.args.store.now c.args.locals.now in
    let p = c.in-Element in
    let object = seen plan class p.object in
    let index = seen plan class p.index in
    let count = c.from-in-Element.result in
    let number = c.from-in-Element-2.result in
    c.write-in-Element.ensures.end (map (seen plan class) c.args.locals.now) (and_then (spot_of object) (λ spot. map_ok (λ k. inside (inside spot number) k) (index_of count index))) c.element-found.ensures
    ∙ sym (field-element-is s count object number index (λ spot s1. write_spot p.prim spot v s1))
    ∙ ap (λ (n : ℕ). put_of (OfElement p.prim n object number index) v s) c.from-in-Element.ensures
    ∙ ap (λ (n : ℕ). put_of (OfElement p.prim p.count object n index) v s) c.from-in-Element-2.ensures
    ∙ ap (λ (t : Target). put_of (target_seen plan class t) v s) (sym p.is)

pub returns-in-StaticElement-clause-end : goal.returns-in-StaticElement-clause-end
returns-in-StaticElement-clause-end c =
    let plan = c.args.plan.now in
    let class = c.args.class in
    let v = seen plan class c.args.value in
    let s : State = state_of plan class c.args.store.now c.args.locals.now in
    let p = c.in-StaticElement in
    let index = seen plan class p.index in
    let count = c.from-in-StaticElement.result in
    let number = c.from-in-StaticElement-2.result in
    c.write-in-StaticElement.ensures.end (map (seen plan class) c.args.locals.now) (map_ok (λ i. inside (static_spot number) i) (index_of count index)) c.static_element-found.ensures
    ∙ sym (element-is s count (static_spot number) index (λ spot s1. write_spot p.prim spot v s1))
    ∙ ap (λ (n : ℕ). put_of (OfStaticElement p.prim n number index) v s) c.from-in-StaticElement.ensures
    ∙ ap (λ (n : ℕ). put_of (OfStaticElement p.prim p.count n index) v s) c.from-in-StaticElement-2.ensures
    ∙ ap (λ (t : Target). put_of (target_seen plan class t) v s) (sym p.is)
