-- Why the files of kits are refused.
use Rattle.std.specs.Prelude.{◌≡◌, ℕ, Bool, true, false, List, [], ◌∷◌, slice_index_or, Result, Ok, Err}
use Rattle.kit_manifest.specs.Order.{IsOrderOf, IsListRefusal}
use Rattle.kit_manifest.specs.Reading.{HasDocument, IsManifest, IsTextRefusal}
use Rattle.kit_manifest.specs.declared.fault.ManifestFault.TheVariants as fault
use Rattle.kit_manifest.specs.declared.manifest.Manifest.{Manifest}
use Rattle.kit_sources.specs.declared.refusal.SourcesRefusal.{SourcesRefusal}
use Rattle.kit_sources.specs.declared.refusal.SourcesRefusal.TheVariants.{FileFault, Refused, Memory}
use Rattle.kit_sources.specs.declared.refusal.Why.{Why}
use Rattle.kit_sources.specs.declared.refusal.Why.TheVariants.{NotToml, MissingKey, WrongType, BadName}
use Rattle.kit_sources.specs.declared.refusal.Why.TheVariants.{UnknownKit, Cycle, RepeatedKit}

-- it is want of memory
abbrev pub is_want : SourcesRefusal → Bool
is_want (FileFault file) = false
is_want (Refused file why) = false
is_want Memory = true

-- the names of the reads that failed, by the refusal, and by how it ended
abbrev pub failed_of : SourcesRefusal → List (List ℕ)
failed_of (FileFault file) = file ∷ []
failed_of (Refused file why) = []
failed_of Memory = []

abbrev pub failed_in : {X : Type 0} → Result X SourcesRefusal → List (List ℕ)
failed_in (Ok value) = []
failed_in (Err refusal) = failed_of refusal

-- The text is the manifest, or this is why it is none.
abbrev pub IsTextManifest : List ℕ → Manifest → Type 0
IsTextManifest text manifest = HasDocument text (λ table. IsManifest table manifest)

abbrev pub IsWhyOfManifest : List ℕ → Why → Type 0
IsWhyOfManifest text NotToml = IsTextRefusal text fault.NotToml
IsWhyOfManifest text MissingKey = IsTextRefusal text fault.MissingKey
IsWhyOfManifest text WrongType = IsTextRefusal text fault.WrongType
IsWhyOfManifest text BadName = IsTextRefusal text fault.BadName
IsWhyOfManifest text _ = ⊥

-- Why the manifests have no order, which stands at the one of this number.
abbrev pub IsWhyOfList : List Manifest → ℕ → Why → Type 0
IsWhyOfList manifests at UnknownKit = IsListRefusal manifests (fault.UnknownKit at)
IsWhyOfList manifests at Cycle = IsListRefusal manifests (fault.Cycle at)
IsWhyOfList manifests at RepeatedKit = IsListRefusal manifests (fault.RepeatedKit at)
IsWhyOfList manifests at _ = ⊥

-- What the file of a name says: a value of which the one fact holds, or the file is refused, and of why the other
-- holds.
abbrev pub Says : {X : Type 0} → List ℕ → (X → Type 0) → (Why → Type 0) → Result X SourcesRefusal → Type 0
Says name Holds Refuses (Ok value) = Holds value
Says name Holds Refuses (Err (Refused file why)) = (file ≡ name) × Refuses why
Says name Holds Refuses (Err (FileFault file)) = ⊥
Says name Holds Refuses (Err Memory) = ⊥

abbrev pub name_at : List (List ℕ) → ℕ → List ℕ
name_at names i = slice_index_or names i []

-- The order of the kits by their manifests, or the manifest that is refused first, by its name, and why.
abbrev pub IsOrdered : List (List ℕ) → List Manifest → Result (List ℕ) SourcesRefusal → Type 0
IsOrdered names manifests (Ok places) = IsOrderOf manifests places
IsOrdered names manifests (Err (Refused file why)) = (at : ℕ) × (file ≡ name_at names at) × IsWhyOfList manifests at why
IsOrdered names manifests (Err (FileFault file)) = ⊥
IsOrdered names manifests (Err Memory) = ⊥
