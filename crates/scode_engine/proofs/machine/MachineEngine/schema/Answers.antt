use Rattle.std.proofs.Common.{ℕ, subst}
use Rattle.std.specs.Prelude.{IfSome}
use Rattle.std.specs.FinMap as map
use Rattle.sed_typed.specs.Spelled.{CanBeTold}
use Rattle.sed_engine.specs.Fits.{Fits}
use Rattle.sed_engine.specs.Whole.{IsObject, IsWhole}
use Rattle.scode_code.specs.Image.{meaning_of}
use Rattle.scode_engine.specs.Loaded.{live_of, statics_of}
use Rattle.scode_engine.specs.Kept.{Loaded}
use Rattle.scode_engine.proofs.machine.MachineEngine.schema.Goals as goal

pub returns-clause-whole : goal.returns-clause-whole
returns-clause-whole c =
    subst (λ (m : Loaded). IsWhole (meaning_of m.image)) c.self.view_is
    (c.verified_images_are_whole.ensures c.self.inside.code c.self.invariant.objects.verified)

pub returns-clause-told : goal.returns-clause-told
returns-clause-told c =
    subst (λ (m : Loaded). CanBeTold (meaning_of m.image).schema) c.self.view_is
    (subst CanBeTold c.self.invariant.schema_is c.self.invariant.told)

pub returns-clause-objects : goal.returns-clause-objects
returns-clause-objects c =
    subst (λ (m : Loaded). (p : ℕ) → IfSome (map.get (live_of m.image m.blocks) p) (IsObject (meaning_of m.image)))
    c.self.view_is c.self.invariant.objects.objects

pub returns-clause-statics : goal.returns-clause-statics
returns-clause-statics c =
    subst (λ (m : Loaded). Fits (meaning_of m.image).fields (meaning_of m.image).static_fields
    (meaning_of m.image).initial_statics (statics_of m.image m.blocks)) c.self.view_is c.self.invariant.objects.statics
