use Rattle.std.proofs.Common.{ℕ, subst}
use Rattle.std.specs.Prelude.{IfSome}
use Rattle.std.specs.FinMap as map
use Rattle.sed_typed.specs.Spelled.{CanBeTold}
use Rattle.sed_engine.specs.Fits.{Fits}
use Rattle.sed_engine.specs.Program.{meaning_of}
use Rattle.sed_engine.specs.Whole.{IsObject, IsWhole}
use Rattle.sed_walker.specs.Held.{Held}
use Rattle.sed_walker.proofs.walker.WalkerEngine.schema.Goals as goal

pub returns-clause-whole : goal.returns-clause-whole
returns-clause-whole c = subst (λ (h : Held). IsWhole (meaning_of h.program)) c.self.view_is c.self.invariant.whole

pub returns-clause-told : goal.returns-clause-told
returns-clause-told c = subst (λ (h : Held). CanBeTold h.program.schema) c.self.view_is c.self.invariant.told

pub returns-clause-objects : goal.returns-clause-objects
returns-clause-objects c = subst (λ (h : Held). (p : ℕ) → IfSome (map.get h.live p) (IsObject (meaning_of h.program))) c.self.view_is c.self.invariant.objects

pub returns-clause-statics : goal.returns-clause-statics
returns-clause-statics c =
    subst (λ (h : Held). Fits (meaning_of h.program).fields (meaning_of h.program).static_fields (meaning_of h.program).initial_statics h.statics) c.self.view_is c.self.invariant.statics
