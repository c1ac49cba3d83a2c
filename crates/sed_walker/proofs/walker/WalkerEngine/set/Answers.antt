use Rattle.std.proofs.Common.{◌≡◌, ℕ, Option, Some, sym, ap, refl, subst}
use Rattle.std.specs.Prelude.{IfSome, IsTrue, is_some}
use Rattle.std.specs.FinMap as map
use Rattle.sed_typed.specs.declared.program.Program.{Program}
use Rattle.sed_engine.specs.Code.{Object, may_store, with_slot}
use Rattle.sed_engine.specs.Program.{meaning_of}
use Rattle.sed_engine.specs.Whole.{IsObject}
use Rattle.sed_cells.specs.Places.{Plan}
use Rattle.sed_value.specs.declared.value.Value.{Value}
use Rattle.slab.specs.Slab.{Slab, get}
use Rattle.sed_walker.specs.declared.component.Component.{Component}
use Rattle.sed_walker.specs.Held.{Held, held_of, live_of, object_seen}
use Rattle.sed_walker.proofs.Keeping.{object_at}
use Rattle.sed_walker.proofs.Changes.{component_of, held-changed, live_at, told}
use Rattle.sed_walker.proofs.walker.WalkerEngine.set.Goals as goal

abbrev may : ℕ → Value → Program → Object → Type 0
may slot v program o = IsTrue (may_store (meaning_of program) o.class slot v)

-- what a store leaves of a component that is found
left : (plan : Plan) (s new : Slab Component) (k slot : ℕ) (u v : Value) → u ≡ v → (x : Component) → get s k ≡ Some x
    → IfSome (get s k) (λ c. live_of plan new ≡ map.insert (live_of plan s) k (with_slot (meaning_of plan.program) (object_seen plan c) slot u))
    → live_of plan new ≡ map.insert (live_of plan s) k (with_slot (meaning_of plan.program) (object_seen plan x) slot v)
left plan s new k slot u v same x at stored =
    subst (λ (r : Option Component). IfSome r (λ c. live_of plan new ≡ map.insert (live_of plan s) k (with_slot (meaning_of plan.program) (object_seen plan c) slot v))) at
    (subst (λ (v : Value). IfSome (get s k) (λ c. live_of plan new ≡ map.insert (live_of plan s) k (with_slot (meaning_of plan.program) (object_seen plan c) slot v))) same stored)

pub store-requires-clause-there : goal.store-requires-clause-there
store-requires-clause-there c =
    let w = c.self.inside in
    let x = component_of w.slots w.components w.statics w.limit c.args.self.now c.self.view_is c.args.p.0 (may c.args.s.0 c.args.v.now) c.requires in
    ap is_some x.1

pub store-requires-clause-object : goal.store-requires-clause-object
store-requires-clause-object c =
    let w = c.self.inside in
    let x = component_of w.slots w.components w.statics w.limit c.args.self.now c.self.view_is c.args.p.0 (may c.args.s.0 c.args.v.now) c.requires in
    subst (λ (r : Option Component). IfSome r (λ x. IsObject (meaning_of w.slots.program) (object_seen w.slots x))) (sym x.1)
    (object_at (held_of w.slots w.components w.statics w.limit) w.used c.self.invariant c.args.p.0 (object_seen w.slots x.0) (live_at w.slots w.components c.args.p.0 x.0 x.1))

pub store-requires-clause-may : goal.store-requires-clause-may
store-requires-clause-may c =
    let w = c.self.inside in
    let x = component_of w.slots w.components w.statics w.limit c.args.self.now c.self.view_is c.args.p.0 (may c.args.s.0 c.args.v.now) c.requires in
    subst (λ (r : Option Component). IfSome r (λ x. may c.args.s.0 c.value.result.now w.slots.program (object_seen w.slots x))) (sym x.1)
    (subst (λ (v : Value). may c.args.s.0 v w.slots.program (object_seen w.slots x.0)) (sym c.value.ensures) x.2)

pub invariant_of-self : goal.invariant_of-self
invariant_of-self c =
    let w = c.self.inside in
    let x = component_of w.slots w.components w.statics w.limit c.args.self.now c.self.view_is c.args.p.0 (may c.args.s.0 c.args.v.now) c.requires in
    let o : Object = object_seen w.slots x.0 in
    let object : IsObject (meaning_of w.slots.program) o = object_at (held_of w.slots w.components w.statics w.limit) w.used c.self.invariant c.args.p.0 o (live_at w.slots w.components c.args.p.0 x.0 x.1) in
    held-changed w.slots w.components w.statics w.limit w.used c.self.invariant c.store.new.components w.statics c.args.p.0 x.0
    (with_slot (meaning_of w.slots.program) o c.args.s.0 c.args.v.now) x.1
    (left w.slots w.components c.store.new.components c.args.p.0 c.args.s.0 c.value.result.now c.args.v.now c.value.ensures x.0 x.1 c.store.ensures)
    (c.what_is_kept_fits.ensures.stored (meaning_of w.slots.program) o c.args.s.0 c.args.v.now c.self.invariant.whole object x.2) refl c.self.invariant.statics

pub returns-clause-written : goal.returns-clause-written
returns-clause-written c =
    let w = c.self.inside in
    let x = component_of w.slots w.components w.statics w.limit c.args.self.now c.self.view_is c.args.p.0 (may c.args.s.0 c.args.v.now) c.requires in
    told w.slots w.components w.statics w.limit c.args.self.now c.self.view_is c.args.p.0
    (λ (h : Held) (o : Object). live_of w.slots c.store.new.components ≡ map.insert h.live c.args.p.0 (with_slot (meaning_of h.program) o c.args.s.0 c.args.v.now)) x.0 x.1
    (left w.slots w.components c.store.new.components c.args.p.0 c.args.s.0 c.value.result.now c.args.v.now c.value.ensures x.0 x.1 c.store.ensures)

pub returns-clause-meaning : goal.returns-clause-meaning
returns-clause-meaning c = ap (λ (h : Held). meaning_of h.program) c.self.view_is
