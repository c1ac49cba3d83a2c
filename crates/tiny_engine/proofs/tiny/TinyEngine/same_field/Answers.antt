use Rattle.std.proofs.Common.{◌≡◌, subst, true}
use Rattle.std.specs.Prelude.{IsTrue}
use Rattle.sed_engine.specs.Code.{is_property, is_same_field}
use Rattle.tiny_engine.specs.Tiny.{Held, meaning_of}
use Rattle.tiny_engine.proofs.TinyLemmas.{same_field_is}
use Rattle.tiny_engine.proofs.tiny.TinyEngine.same_field.Goals as goal

pub returns : goal.returns
returns c =
    let t = c.args._t.0 in
    let a = c.args._a.0 in
    let b = c.args._b.0 in
    subst (λ (h : Held). IsTrue (is_property (meaning_of h.schema) t a) → IsTrue (is_property (meaning_of h.schema) t b) → true ≡ is_same_field (meaning_of h.schema) t a b) c.self.view_is
    (same_field_is c.self.inside.schema c.self.invariant.0 t a b) c.requires.first c.requires.other
