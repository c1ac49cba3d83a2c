-- What is read for kits, step by step, and how it ends.
use Rattle.std.specs.Prelude.{◌≡◌, ℕ, List, [], map, slice_index_or, Result, Ok, String, string_bytes}
use Rattle.std.specs.List.{flat_map}
use Rattle.std.specs.declared.alloc.Global.{Global}
use Rattle.sed_outside.specs.Steps.{Read, Decides, AndThen, Each}
use Rattle.sed_outside.specs.Reads.{TextOf}
use Rattle.kit_manifest.specs.declared.manifest.Manifest.{Manifest}
use Rattle.sed_units.specs.declared.classes.Unit.{Unit as TheUnit}
use Rattle.sed_classes.specs.declared.kit_units.KitUnits.{KitUnits}
use Rattle.kit_sources.specs.declared.refusal.SourcesRefusal.{SourcesRefusal}
use Rattle.kit_sources.specs.declared.refusal.SourcesRefusal.TheVariants.{FileFault}
use Rattle.kit_sources.specs.declared.refusal.Why.{Why}
use Rattle.kit_sources.specs.declared.sources.Sources.{Sources}
use Rattle.kit_sources.specs.Refusals.{IsTextManifest, IsWhyOfManifest, IsOrdered, Says}
use Rattle.kit_sources.specs.Text.{IsUnit, IsWhyOfSource}

-- The bytes of words.
abbrev pub names_of : List (String Global) → List (List ℕ)
names_of words = map (λ word. string_bytes word) words

-- The file of a name is read. Where the read fails it ends with that file's fault; else with what its text says.
abbrev pub FileRead : {X : Type 0} → (List ℕ → X → Type 0) → (List ℕ → Why → Type 0) → List ℕ
    → List Read → Result X SourcesRefusal → Type 0
FileRead Holds Refuses name =
    AndThen (TextOf name (FileFault name)) (λ text. Decides (Says name (Holds text) (Refuses text)))

-- A manifest is read.
abbrev pub ManifestRead : List ℕ → List Read → Result Manifest SourcesRefusal → Type 0
ManifestRead = FileRead IsTextManifest IsWhyOfManifest

-- A source is read: its text is lexed and parsed.
abbrev pub SourceRead : List ℕ → List Read → Result TheUnit SourcesRefusal → Type 0
SourceRead = FileRead IsUnit IsWhyOfSource

-- A kit by what its manifest says and the units of its sources.
abbrev pub kit_of : Manifest → List TheUnit → KitUnits
kit_of manifest units = record { kit = manifest.name; depends = manifest.depends; units = units }

-- The sources of a kit are read, in the order of its manifest.
abbrev pub KitRead : Manifest → List Read → Result KitUnits SourcesRefusal → Type 0
KitRead manifest = AndThen (Each SourceRead manifest.files) (λ units. Decides (λ end. end ≡ Ok (kit_of manifest units)))

-- The manifest of a number; past the last one it says nothing.
abbrev pub manifest_at : List Manifest → ℕ → Manifest
manifest_at manifests i = slice_index_or manifests i (record { name = []; version = []; depends = []; files = [] })

-- the names of the sources of kits in this order
abbrev pub files_in : List Manifest → List ℕ → List (List ℕ)
files_in manifests order = flat_map (λ place. (manifest_at manifests place).files) order

-- The kits of these places are read, one after another.
abbrev pub KitsAt : List Manifest → List ℕ → List Read → Result Sources SourcesRefusal → Type 0
KitsAt manifests order = AndThen (Each (λ place. KitRead (manifest_at manifests place)) order)
    (λ kits. Decides (λ end. end ≡ Ok (record { kits = kits; files = files_in manifests order })))

-- The kits of these manifests, read from the files of these names, are ordered, and then read in that order.
abbrev pub KnownRead : List (List ℕ) → List Manifest → List Read → Result Sources SourcesRefusal → Type 0
KnownRead names manifests = AndThen (Decides (IsOrdered names manifests)) (KitsAt manifests)

-- The manifests of these names are read, in their order. Then the kits are ordered, without a read; and then their
-- sources are read, kit by kit in that order. The first refusal ends it, and nothing more is read.
abbrev pub KitsRead : List (List ℕ) → List Read → Result Sources SourcesRefusal → Type 0
KitsRead names = AndThen (Each ManifestRead names) (KnownRead names)
