-- When a refusal comes, and which ones a call has.
use Rattle.std.specs.Prelude.{◌≡◌, Result, Err, ◌⊎◌}
use Rattle.kit_manifest.specs.declared.fault.ManifestFault.{ManifestFault}
use Rattle.kit_manifest.specs.declared.fault.ManifestFault.TheVariants.{NotToml, MissingKey, WrongType, BadName}
use Rattle.kit_manifest.specs.declared.fault.ManifestFault.TheVariants.{UnknownKit, Cycle, RepeatedKit, Memory}

-- The answer is this refusal exactly where the fact holds; want of memory may come in its place.
pub record RefusesWhere {T : Type 0} (result : Result T ManifestFault)
    (fault : ManifestFault) (Holds : Type 0) : Type 0 where
  pub only : result ≡ Err fault → Holds
  pub comes : Holds → (result ≡ Err Memory → ⊥) → result ≡ Err fault

-- One of the refusals of a text, or want of memory.
abbrev pub IsOfText : ManifestFault → Type 0
IsOfText (UnknownKit _) = ⊥
IsOfText (Cycle _) = ⊥
IsOfText (RepeatedKit _) = ⊥
IsOfText _ = Unit {0}

-- The fault is want of memory, or the one given, and then the fact holds.
abbrev pub IsMemoryOr : ManifestFault → ManifestFault → Type 0 → Type 0
IsMemoryOr fault given Holds = (fault ≡ Memory) ⊎ ((fault ≡ given) × Holds)

-- One of the refusals of a list, or want of memory.
abbrev pub IsOfList : ManifestFault → Type 0
IsOfList NotToml = ⊥
IsOfList MissingKey = ⊥
IsOfList WrongType = ⊥
IsOfList BadName = ⊥
IsOfList _ = Unit {0}
