-- A kit that is read, and all of them.
use Rattle.std.proofs.Common.{◌≡◌, ◌<◌, ℕ, suc, List, [], ◌∷◌, length, get_or, Result, Ok, Err, String, Global, refl, sym, ap, subst, ◌∙◌}
use Rattle.std.proofs.lemmas.List.{get_or_read, length-map}
use Rattle.std.specs.Prelude.{All}
use Rattle.sed_outside.specs.declared.files.Files.{Ghosts}
use Rattle.sed_outside.specs.Steps.{Read, Decides, stops, goes_on, Each, UnlessFree}
use Rattle.sed_outside.specs.Reads.{HasReads}
use Rattle.sed_outside.proofs.Joining.{no_reads, stops_then, goes_then, decides_then, decided}
use Rattle.kit_manifest.specs.declared.manifest.Manifest.{Manifest}
use Rattle.sed_classes.specs.declared.kit_units.KitUnits.{KitUnits}
use Rattle.sed_units.specs.declared.classes.Unit.{Unit as TheUnit}
use Rattle.kit_sources.specs.declared.refusal.SourcesRefusal.{SourcesRefusal}
use Rattle.kit_sources.specs.declared.sources.Sources.{Sources}
use Rattle.kit_sources.specs.Refusals.{is_want, IsOrdered}
use Rattle.kit_sources.specs.Sources.{ManifestRead, SourceRead, KitRead, KitsAt, KnownRead, KitsRead, kit_of, manifest_at, files_in, names_of}

-- ---- a kit

kit_is : (manifest : Manifest) (depends : List (List ℕ)) (units : List TheUnit) → depends ≡ manifest.depends
    → (let kit : KitUnits = record { kit = manifest.name; depends = depends; units = units } in kit) ≡ kit_of manifest units
kit_is manifest depends units same = ap (λ (names : List (List ℕ)). let kit : KitUnits = record { kit = manifest.name; depends = names; units = units } in kit) same

pub kit_done : {T : Type 0} (F : Ghosts T) (a b : T) (manifest : Manifest) (names depends : List (List ℕ)) (units : List TheUnit)
    → names ≡ manifest.files → depends ≡ manifest.depends → HasReads F a b (λ reads. Each SourceRead names reads (Ok units))
    → HasReads F a b (λ reads. UnlessFree is_want (KitRead manifest reads) (Ok (record { kit = manifest.name; depends = depends; units = units })))
kit_done F a b manifest names depends units files same done =
    decides_then F a b is_want (Each SourceRead manifest.files) (λ us end. end ≡ Ok (kit_of manifest us)) units
    (Ok (record { kit = manifest.name; depends = depends; units = units }))
    (subst (λ (ns : List (List ℕ)). HasReads F a b (λ reads. Each SourceRead ns reads (Ok units))) files done)
    (ap Ok (kit_is manifest depends units same))

pub kit_stops : {T : Type 0} (F : Ghosts T) (a b : T) (manifest : Manifest) (names : List (List ℕ)) (refusal : SourcesRefusal)
    → names ≡ manifest.files → HasReads F a b (λ reads. UnlessFree is_want (Each SourceRead names reads) (Err refusal))
    → HasReads F a b (λ reads. UnlessFree is_want (KitRead manifest reads) (Err refusal))
kit_stops F a b manifest names refusal files done =
    stops_then F a b is_want (Each SourceRead manifest.files) _ refusal
    (subst (λ (ns : List (List ℕ)). HasReads F a b (λ reads. UnlessFree is_want (Each SourceRead ns reads) (Err refusal))) files done)

-- the manifest at a place
pub manifest_is : (manifests : List Manifest) (place : ℕ) (manifest : Manifest) → place < length manifests → manifest ≡ get_or manifests place manifest
    → manifest ≡ manifest_at manifests place
manifest_is manifests place manifest within is = get_or_read manifests place manifest within is _

pub kit_at : {T : Type 0} (F : Ghosts T) (a b : T) (manifests : List Manifest) (place : ℕ) (manifest : Manifest) (end : Result KitUnits SourcesRefusal)
    → place < length manifests → manifest ≡ get_or manifests place manifest → HasReads F a b (λ reads. UnlessFree is_want (KitRead manifest reads) end)
    → HasReads F a b (λ reads. UnlessFree is_want (KitRead (manifest_at manifests place) reads) end)
kit_at F a b manifests place manifest end within is done =
    subst (λ (m : Manifest). HasReads F a b (λ reads. UnlessFree is_want (KitRead m reads) end)) (manifest_is manifests place manifest within is) done

pub place_within : (n : ℕ) (order : List ℕ) (i place : ℕ) → All (λ p. p < n) order → i < length order → place ≡ get_or order i place → place < n
place_within n order i place all within is = subst (λ p. p < n) (sym is) (all i place within)

-- ---- all kits

pub kits_done : {T : Type 0} (F : Ghosts T) (a b : T) (manifests : List Manifest) (order : List ℕ) (kits : List KitUnits) (names : List (List ℕ))
    → names ≡ files_in manifests order → HasReads F a b (λ reads. Each (λ place. KitRead (manifest_at manifests place)) order reads (Ok kits))
    → HasReads F a b (λ reads. UnlessFree is_want (KitsAt manifests order reads) (Ok (record { kits = kits; files = names })))
kits_done F a b manifests order kits names same done =
    decides_then F a b is_want (Each (λ place. KitRead (manifest_at manifests place)) order)
    (λ ks end. end ≡ Ok (record { kits = ks; files = files_in manifests order })) kits (Ok (record { kits = kits; files = names })) done
    (ap (λ (ns : List (List ℕ)). Ok (let sources : Sources = record { kits = kits; files = ns } in sources)) same)

pub kits_stop : {T : Type 0} (F : Ghosts T) (a b : T) (manifests : List Manifest) (order : List ℕ) (refusal : SourcesRefusal)
    → HasReads F a b (λ reads. UnlessFree is_want (Each (λ place. KitRead (manifest_at manifests place)) order reads) (Err refusal))
    → HasReads F a b (λ reads. UnlessFree is_want (KitsAt manifests order reads) (Err refusal))
kits_stop F a b manifests order refusal done =
    stops_then F a b is_want (Each (λ place. KitRead (manifest_at manifests place)) order) _ refusal done

pub known_goes : {T : Type 0} (F : Ghosts T) (a b : T) (names : List (List ℕ)) (manifests : List Manifest) (order places : List ℕ) (end : Result Sources SourcesRefusal)
    → UnlessFree is_want (IsOrdered names manifests) (Ok order) → places ≡ order → HasReads F a b (λ reads. UnlessFree is_want (KitsAt manifests places reads) end)
    → HasReads F a b (λ reads. UnlessFree is_want (KnownRead names manifests reads) end)
known_goes F a b names manifests order places end ordered same rest =
    goes_then F a a b is_want (Decides (IsOrdered names manifests)) (KitsAt manifests) order end
    (no_reads F a (λ reads. Decides (IsOrdered names manifests) reads (Ok order)) (record { none = refl; holds = ordered }))
    (subst (λ (ps : List ℕ). HasReads F a b (λ reads. UnlessFree is_want (KitsAt manifests ps reads) end)) same rest)

pub known_stops : {T : Type 0} (F : Ghosts T) (a : T) (names : List (List ℕ)) (manifests : List Manifest) (refusal : SourcesRefusal)
    → UnlessFree is_want (IsOrdered names manifests) (Err refusal) → HasReads F a a (λ reads. UnlessFree is_want (KnownRead names manifests reads) (Err refusal))
known_stops F a names manifests refusal refused =
    stops_then F a a is_want (Decides (IsOrdered names manifests)) (KitsAt manifests) refusal
    (no_reads F a (λ reads. UnlessFree is_want (Decides (IsOrdered names manifests) reads) (Err refusal))
    (decided is_want (IsOrdered names manifests) (Err refusal) refused))

apart : {E X : Type 0} (x : X) (e : E) → ◌≡◌ {A = Result X E} (Ok x) (Err e) → ⊥
apart x e same = cc

-- each item has a value
pub each_length : {E X Y : Type 0} (one : X → List Read → Result Y E → Type 0) (xs : List X) (reads : List Read) (ys : List Y) → Each one xs reads (Ok ys)
    → length ys ≡ length xs
each_length {E} {X} {Y} one [] reads ys done =
    let same : ◌≡◌ {A = Result (List Y) E} (Ok ys) (Ok []) = done.holds in
    let none : ys ≡ [] = cc in ap length none
each_length one (x ∷ xs) reads ys (stops refusal h same) = absurd (apart ys refusal same)
each_length one (x ∷ xs) reads ys (goes_on front back y parts h (stops refusal k same)) = absurd (apart ys refusal same)
each_length {E} {X} {Y} one (x ∷ xs) reads ys (goes_on front back y parts h (goes_on g d zs more k end)) =
    let same : ◌≡◌ {A = Result (List Y) E} (Ok ys) (Ok (y ∷ zs)) = end.holds in
    let more : ys ≡ y ∷ zs = cc in
    ap length more ∙ ap suc (each_length one xs g zs k)

pub as_many : {T : Type 0} (F : Ghosts T) (a b : T) (words : List (String Global)) (manifests slice : List Manifest) → slice ≡ manifests
    → HasReads F a b (λ reads. Each ManifestRead (names_of words) reads (Ok manifests)) → length slice ≡ length words
as_many F a b words manifests slice same done =
    ap length same ∙ each_length ManifestRead (names_of words) done.reads manifests done.holds ∙ length-map words _

pub all_goes : {T : Type 0} (F : Ghosts T) (a b c : T) (names : List (List ℕ)) (manifests slice : List Manifest) (end : Result Sources SourcesRefusal) → slice ≡ manifests
    → HasReads F a b (λ reads. Each ManifestRead names reads (Ok manifests)) → HasReads F b c (λ reads. UnlessFree is_want (KnownRead names slice reads) end)
    → HasReads F a c (λ reads. UnlessFree is_want (KitsRead names reads) end)
all_goes F a b c names manifests slice end same done rest =
    goes_then F a b c is_want (Each ManifestRead names) (KnownRead names) manifests end done
    (subst (λ (ms : List Manifest). HasReads F b c (λ reads. UnlessFree is_want (KnownRead names ms reads) end)) same rest)

pub all_stops : {T : Type 0} (F : Ghosts T) (a b : T) (names : List (List ℕ)) (refusal : SourcesRefusal)
    → HasReads F a b (λ reads. UnlessFree is_want (Each ManifestRead names reads) (Err refusal))
    → HasReads F a b (λ reads. UnlessFree is_want (KitsRead names reads) (Err refusal))
all_stops F a b names refusal done = stops_then F a b is_want (Each ManifestRead names) (KnownRead names) refusal done
