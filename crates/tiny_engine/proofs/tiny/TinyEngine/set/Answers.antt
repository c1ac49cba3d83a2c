use Rattle.std.proofs.Common.{◌≡◌, subst, sym, ◌∙◌, Option, None, Some, ap, refl, ℤ, pos}
use Rattle.std.specs.Prelude.{IsTrue, IfSome, IsSomeAnd}
use Rattle.std.specs.Option.{option_map}
use Rattle.std.specs.FinMap as finite
use Rattle.sed_value.specs.Value.{stored}
use Rattle.sed_value.specs.declared.slot_type.Primitive.TheVariants as prim
use Rattle.sed_value.specs.declared.slot_type.SlotType.TheVariants.{Prim}
use Rattle.sed_engine.specs.Code.{may_store, with_slot}
use Rattle.tiny_engine.specs.declared.tiny.Component.{Component}
use Rattle.tiny_engine.specs.Tiny.{Held, One, meaning_of, live_of, int_or}
use Rattle.tiny_engine.specs.contracts.tiny.Tiny.{the_view}
use Rattle.tiny_engine.proofs.TinyLemmas.{set_leaves}
use Rattle.tiny_engine.proofs.tiny.TinyEngine.set.Goals as goal

abbrev seen : Component → One
seen o = record { class = o.class; meta = o.meta }

abbrev changed : ℤ → Component → Component
changed n o = record { class = o.class; meta = n }

abbrev with_meta : ℤ → One → One
with_meta n o = record { class = o.class; meta = n }

-- the component as it is seen is changed as the component is
seen_changed : (one : Option Component) (n : ℤ) → option_map seen (option_map (changed n) one) ≡ option_map (with_meta n) (option_map seen one)
seen_changed None n = refl
seen_changed (Some o) n = refl

pub returns-clause-written : goal.returns-clause-written
returns-clause-written c =
    let n : ℤ = int_or (pos 0) (stored (Prim prim.Int) c.args.v.now) in
    let left : c.stored_in-self-inside.result ≡ option_map (changed n) c.self.inside.one = c.stored_in-self-inside.ensures in
    let made : option_map seen c.stored_in-self-inside.result ≡ option_map (with_meta n) (option_map seen c.self.inside.one) =
    ap (option_map seen) left ∙ seen_changed c.self.inside.one n in
    subst (λ (h : Held). IsSomeAnd (finite.get (live_of h.one) c.args._p.0) (λ x. IsTrue (may_store (meaning_of h.schema) x.class c.args._s.0 c.args.v.now)) →
    IfSome (finite.get (live_of h.one) c.args._p.0) (λ x. live_of (option_map seen c.stored_in-self-inside.result) ≡ finite.insert (live_of h.one) c.args._p.0 (with_slot (meaning_of h.schema) x c.args._s.0 c.args.v.now))) c.self.view_is
    (λ has. let h : Held = the_view c.self.inside in
    subst (λ (one : Option One). IfSome (finite.get (live_of h.one) c.args._p.0) (λ x. live_of one ≡ finite.insert (live_of h.one) c.args._p.0 (with_slot (meaning_of h.schema) x c.args._s.0 c.args.v.now)))
    (sym made)
    (set_leaves h.schema c.self.invariant.0 h.one c.self.invariant.1 c.args._p.0 c.args._s.0 c.args.v.now has))
    c.requires
