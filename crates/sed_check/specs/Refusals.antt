-- Why a program is not loaded, and what a call that loads one leaves.
use Rattle.std.specs.Prelude.{◌≡◌, ◌⊎◌, ℕ, Bool, true, false, List, [], ◌∷◌, map, Option, Some, None, Result, Ok, Err}
use Rattle.std.specs.Option.{option_map}
use Rattle.sed_typed.specs.declared.program.Method.{Method}
use Rattle.sed_typed.specs.declared.program.Program.{Program}
use Rattle.sed_typed.specs.Bare.{bare_stmt}
use Rattle.kit_sources.specs.declared.refusal.SourcesRefusal.{SourcesRefusal}
use Rattle.kit_sources.specs.declared.refusal.SourcesRefusal.TheVariants as sources
use Rattle.sed_check.specs.declared.refusal.KitsRefusal.{KitsRefusal}
use Rattle.sed_check.specs.declared.refusal.KitsRefusal.TheVariants.{FileFault, Refused, Rule, Memory}

-- it is want of memory
abbrev pub is_want : KitsRefusal → Bool
is_want (FileFault file) = false
is_want (Refused file why) = false
is_want (Rule file at rule) = false
is_want Memory = true

-- the refusal that ends the reading of sources, as one of the loading
abbrev pub of_sources : SourcesRefusal → KitsRefusal
of_sources (sources.FileFault file) = FileFault file
of_sources (sources.Refused file why) = Refused file why
of_sources sources.Memory = Memory

-- the refusal, none where a program is loaded
abbrev pub refusal_of : Result Program KitsRefusal → Option KitsRefusal
refusal_of (Ok program) = None
refusal_of (Err refusal) = Some refusal

-- It ends as the other does: both with a program, or with the same refusal.
abbrev pub HasRefusalOf : Result Program KitsRefusal → Result Program KitsRefusal → Type 0
HasRefusalOf end other = refusal_of other ≡ refusal_of end

-- Programs that are the same, but for where the trees of their bodies lie in memory.
pub record AreAlike (p q : Program) : Type 0 where
  pub schema : p.schema ≡ q.schema
  pub fields : p.fields ≡ q.fields
  pub statics : p.statics ≡ q.statics
  pub texts : p.texts ≡ q.texts
  pub classes : map (λ (m : Method). m.class) p.methods ≡ map (λ (m : Method). m.class) q.methods
  pub names : map (λ (m : Method). m.name) p.methods ≡ map (λ (m : Method). m.name) q.methods
  pub static : map (λ (m : Method). m.is_static) p.methods ≡ map (λ (m : Method). m.is_static) q.methods
  pub virtual : map (λ (m : Method). m.is_virtual) p.methods ≡ map (λ (m : Method). m.is_virtual) q.methods
  pub params : map (λ (m : Method). m.params) p.methods ≡ map (λ (m : Method). m.params) q.methods
  pub results : map (λ (m : Method). m.result) p.methods ≡ map (λ (m : Method). m.result) q.methods
  pub bodies : map (λ (m : Method). option_map bare_stmt m.body) p.methods
      ≡ map (λ (m : Method). option_map bare_stmt m.body) q.methods

-- the names of the reads that failed, by the refusal, and by how it ended
abbrev pub failed_of : KitsRefusal → List (List ℕ)
failed_of (FileFault file) = file ∷ []
failed_of (Refused file why) = []
failed_of (Rule file at rule) = []
failed_of Memory = []

abbrev pub failed_in : Result Program KitsRefusal → List (List ℕ)
failed_in (Ok program) = []
failed_in (Err refusal) = failed_of refusal

-- A file could not be read.
abbrev pub IsFileFault : Result Program KitsRefusal → Type 0
IsFileFault (Err (FileFault file)) = Unit {0}
IsFileFault (Err (Refused file why)) = ⊥
IsFileFault (Err (Rule file at rule)) = ⊥
IsFileFault (Err Memory) = ⊥
IsFileFault (Ok program) = ⊥

-- It ends as the other does, or a file could not be read.
abbrev pub EndsAs : Result Program KitsRefusal → Result Program KitsRefusal → Type 0
EndsAs end other = HasRefusalOf end other ⊎ IsFileFault other
