use Rattle.std.proofs.Common.{ℕ, subst}
use Rattle.std.specs.Prelude.{IfSome}
use Rattle.std.specs.FinMap as finite
use Rattle.sed_typed.specs.Spelled.{CanBeTold}
use Rattle.sed_engine.specs.Whole.{IsObject, IsWhole}
use Rattle.tiny_engine.specs.Tiny.{Held, code_of, live_of, meaning_of}
use Rattle.tiny_engine.specs.contracts.tiny.Tiny.{the_view}
use Rattle.tiny_engine.proofs.TinyLemmas.{objects_are}
use Rattle.tiny_engine.proofs.WholeSys.{sys_tables, sys_told, sys_answers}
use Rattle.tiny_engine.proofs.tiny.TinyEngine.schema.Goals as goal

pub returns-clause-whole : goal.returns-clause-whole
returns-clause-whole c =
    subst (λ (h : Held). IsWhole (meaning_of h.schema)) c.self.view_is
    (c.masked_codes_are_whole.ensures (code_of c.self.inside.schema) (sys_tables c.self.inside.schema c.self.invariant.0) (sys_answers c.self.inside.schema))

pub returns-clause-told : goal.returns-clause-told
returns-clause-told c = subst (λ (h : Held). CanBeTold h.schema) c.self.view_is (sys_told c.self.inside.schema c.self.invariant.0)

pub returns-clause-objects : goal.returns-clause-objects
returns-clause-objects c =
    let h : Held = the_view c.self.inside in
    subst (λ (h : Held). (p : ℕ) → IfSome (finite.get (live_of h.one) p) (IsObject (meaning_of h.schema))) c.self.view_is
    (objects_are h.schema c.self.invariant.0 h.one c.self.invariant.1 c.self.invariant.2)
