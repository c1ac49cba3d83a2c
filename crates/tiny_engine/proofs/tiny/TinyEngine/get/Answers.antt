use Rattle.std.proofs.Common.{◌≡◌, subst, sym, ◌∙◌}
use Rattle.std.specs.Prelude.{IsTrue, IfSome, IsSomeAnd}
use Rattle.std.specs.FinMap as finite
use Rattle.sed_value.specs.declared.value.Value.{Value}
use Rattle.sed_engine.specs.Code.{is_property, slot_value}
use Rattle.tiny_engine.specs.Tiny.{Held, meaning_of, live_of}
use Rattle.tiny_engine.specs.contracts.tiny.Tiny.{the_view}
use Rattle.tiny_engine.proofs.TinyLemmas.{got, seen_meta}
use Rattle.tiny_engine.proofs.tiny.TinyEngine.get.Goals as goal

pub returns : goal.returns
returns c =
    subst (λ (h : Held). IsSomeAnd (finite.get (live_of h.one) c.args._p.0) (λ x. IsTrue (is_property (meaning_of h.schema) x.class c.args._s.0)) →
    IfSome (finite.get (live_of h.one) c.args._p.0) (λ x. c.put.new.self ≡ slot_value (meaning_of h.schema) x c.args._s.0)) c.self.view_is
    (λ has. let h : Held = the_view c.self.inside in
    subst (λ (v : Value). IfSome (finite.get (live_of h.one) c.args._p.0) (λ x. v ≡ slot_value (meaning_of h.schema) x c.args._s.0))
    (seen_meta _ c.self.inside.one ∙ sym (c.put.ensures ∙ c.meta_of.ensures))
    (got h.schema c.self.invariant.0 h.one c.self.invariant.1 c.args._p.0 c.args._s.0 has))
    c.requires
