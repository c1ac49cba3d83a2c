use Rattle.std.proofs.Common.{◌≡◌, ◌∙◌, Option, sym, subst}
use Rattle.std.specs.Prelude.{IfSome, IsSomeAnd, IsTrue}
use Rattle.std.specs.FinMap as map
use Rattle.sed_engine.specs.Code.{Object, is_property, slot_value}
use Rattle.sed_engine.specs.Program.{meaning_of}
use Rattle.sed_walker.specs.Held.{Held, held_of, object_seen}
use Rattle.sed_walker.proofs.Keeping.{object_at}
use Rattle.sed_walker.proofs.Changes.{live_at, not_live}
use Rattle.sed_walker.proofs.walker.WalkerEngine.get.Goals as goal

pub value-requires-clause-object : goal.value-requires-clause-object
value-requires-clause-object c =
    let w = c.self.inside in
    object_at (held_of w.slots w.components w.statics w.limit) w.used c.self.invariant c.args.p.0 (object_seen w.slots c.in-Some.component.now)
    (live_at w.slots w.components c.args.p.0 c.in-Some.component.now (sym c.in-Some.ensures))

pub value-requires-clause-property : goal.value-requires-clause-property
value-requires-clause-property c =
    let w = c.self.inside in
    let has = subst (λ (h : Held). IsSomeAnd (map.get h.live c.args.p.0) (λ o. IsTrue (is_property (meaning_of h.program) o.class c.args.s.0))) (sym c.self.view_is) c.requires in
    subst (λ (r : Option Object). IsSomeAnd r (λ o. IsTrue (is_property (meaning_of w.slots.program) o.class c.args.s.0)))
    (live_at w.slots w.components c.args.p.0 c.in-Some.component.now (sym c.in-Some.ensures)) has

pub returns-in-Some : goal.returns-in-Some
returns-in-Some c =
    let w = c.self.inside in
    subst (λ (h : Held). IfSome (map.get h.live c.args.p.0) (λ o. c.put.new.self ≡ slot_value (meaning_of h.program) o c.args.s.0)) c.self.view_is
    (subst (λ (r : Option Object). IfSome r (λ o. c.put.new.self ≡ slot_value (meaning_of w.slots.program) o c.args.s.0))
    (sym (live_at w.slots w.components c.args.p.0 c.in-Some.component.now (sym c.in-Some.ensures)))
    (c.put.ensures ∙ c.value.ensures))

pub returns-in_default : goal.returns-in_default
returns-in_default c =
    let w = c.self.inside in
    let has = subst (λ (h : Held). IsSomeAnd (map.get h.live c.args.p.0) (λ o. IsTrue (is_property (meaning_of h.program) o.class c.args.s.0))) (sym c.self.view_is) c.requires in
    absurd (not_live w.slots w.components c.args.p.0 (λ o. IsTrue (is_property (meaning_of w.slots.program) o.class c.args.s.0)) (sym c.in_default.ensures) has)
