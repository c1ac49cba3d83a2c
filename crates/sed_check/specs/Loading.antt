-- A program is loaded: files are read, and what they spell is checked.
use Rattle.std.specs.Prelude.{◌≡◌, ℕ, Bool, true, false, List, [], ◌∷◌, IsSomeAnd, Result, Ok, Err, codes}
use Rattle.sed_outside.specs.Steps.{Read, Decides, AndThen}
use Rattle.sed_units.specs.declared.classes.Unit.{Unit as TheUnit}
use Rattle.sed_typed.specs.declared.program.Program.{Program}
use Rattle.kit_sources.specs.declared.sources.Sources.{Sources}
use Rattle.kit_sources.specs.Refusals.{name_at}
use Rattle.kit_sources.specs.Sources.{KitsRead, SourceRead}
use Rattle.sed_check.specs.Checked.{faults, first_fault, IsFault, IsSpelled}
use Rattle.sed_check.specs.declared.refusal.KitsRefusal.{KitsRefusal}
use Rattle.sed_check.specs.declared.refusal.KitsRefusal.TheVariants.{FileFault, Refused, Rule, Memory}
use Rattle.sed_check.specs.Refusals.{of_sources}

-- A step whose refusals are told by other words.
abbrev pub Told : {D E X : Type 0} → (D → E) → (List Read → Result X D → Type 0) → List Read → Result X E → Type 0
Told words step reads (Ok value) = step reads (Ok value)
Told {D} words step reads (Err refusal) = (inner : D) × step reads (Err inner) × (refusal ≡ words inner)

-- The first fault of the units breaks this rule at this place, in the source of this name.
pub record HasRule (sources : Sources) (cycles : Bool) (file : List ℕ) (at rule : ℕ) : Type 0 where
  pub number : ℕ
  pub first : IsSomeAnd (first_fault sources.kits cycles) (IsFault sources.kits rule number at)
  pub name : file ≡ name_at sources.files number

-- The units have no fault and spell the program, or their first fault is refused.
abbrev pub IsChecked : Bool → Sources → Result Program KitsRefusal → Type 0
IsChecked cycles sources (Ok program) = (faults sources.kits cycles ≡ []) × IsSpelled sources.kits program
IsChecked cycles sources (Err (Rule file at rule)) = HasRule sources cycles file at rule
IsChecked cycles sources (Err (FileFault file)) = ⊥
IsChecked cycles sources (Err (Refused file why)) = ⊥
IsChecked cycles sources (Err Memory) = ⊥

-- ---- the kits of manifests

-- Manifests and the texts that they name are accepted: none is refused as it is read, the kits are in order, each text
-- lexes and derives, and the units have no fault.
pub record Accepted (names : List (List ℕ)) (reads : List Read) : Type 0 where
  pub sources : Sources
  pub read : KitsRead names reads (Ok sources)
  pub faultless : faults sources.kits false ≡ []

-- The kits of the manifests of these names are read, and their units checked.
unfoldable pub KitsLoaded : List (List ℕ) → List Read → Result Program KitsRefusal → Type 0
KitsLoaded names = AndThen (Told of_sources (KitsRead names)) (λ sources. Decides (IsChecked false sources))

-- ---- one source

-- The kit `local`, which depends on no other, of one source.
abbrev pub local : List ℕ → TheUnit → Sources
local name unit = record {
  kits = (record { kit = codes "local"; depends = []; units = unit ∷ [] }) ∷ [];
  files = name ∷ [];
}

-- A text is accepted as the kit `local`, whose first class is what `cycles` asks for.
pub record AcceptedText (name : List ℕ) (reads : List Read) : Type 0 where
  pub unit : TheUnit
  pub read : SourceRead name reads (Ok unit)
  pub faultless : faults (local name unit).kits true ≡ []

-- The source of this name is read, and checked as the kit `local`, for a component of its first class.
unfoldable pub TextLoaded : List ℕ → List Read → Result Program KitsRefusal → Type 0
TextLoaded name = AndThen (Told of_sources (SourceRead name)) (λ unit. Decides (IsChecked true (local name unit)))
