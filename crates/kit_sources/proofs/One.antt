-- What is read is one, and which reads failed.
use Rattle.std.proofs.Common.{◌≡◌, ℕ, List, [], Result, Ok, Err, refl, sym, ap, subst, ◌∙◌}
use Rattle.std.specs.Prelude.{◌≢◌}
use Rattle.sed_lexer.specs.Token.{Token}
use Rattle.sed_lexer.specs.Lexes as pieces
use Rattle.sed_lexer.specs.Lexes.{Lexes}
use Rattle.sed_parser.specs.Derives as grammar
use Rattle.sed_parser.specs.Derives.{Derives}
use Rattle.sed_units.specs.declared.classes.Unit.{Unit as TheUnit}
use Rattle.sed_outside.specs.Steps.{Read, Decides, Each}
use Rattle.sed_outside.specs.Reads.{TextOf, failed_names}
use Rattle.sed_outside.proofs.One.{IsOne, one_then, one_decides, one_each, one_text}
use Rattle.sed_outside.proofs.Failing.{end_names, Fails, fails_decides, fails_value, fails_then, fails_each, fails_text}
use Rattle.kit_manifest.specs.Order.{IsOrderOf, IsListRefusal}
use Rattle.kit_manifest.specs.Reading.{HasDocument, IsManifest, IsTextRefusal}
use Rattle.kit_manifest.specs.declared.fault.ManifestFault.{ManifestFault}
use Rattle.kit_manifest.specs.declared.fault.ManifestFault.TheVariants as fault
use Rattle.kit_manifest.specs.declared.manifest.Manifest.{Manifest}
use Rattle.kit_sources.specs.declared.refusal.SourcesRefusal.{SourcesRefusal}
use Rattle.kit_sources.specs.declared.refusal.SourcesRefusal.TheVariants.{FileFault, Refused, Memory}
use Rattle.kit_sources.specs.declared.refusal.Why.{Why}
use Rattle.kit_sources.specs.declared.refusal.Why.TheVariants.{NotToml, MissingKey, WrongType, BadName, UnknownKit, Cycle, RepeatedKit, Lex, Parse}
use Rattle.kit_sources.specs.declared.sources.Sources.{Sources}
use Rattle.kit_sources.specs.Refusals.{Says, IsTextManifest, IsWhyOfManifest, IsWhyOfList, IsOrdered, name_at, failed_of, failed_in}
use Rattle.kit_sources.specs.Sources.{FileRead, ManifestRead, SourceRead, KitRead, KitsAt, KnownRead, KitsRead, kit_of, manifest_at, files_in}
use Rattle.kit_sources.specs.Text.{IsUnit, IsWhyOfSource, place_of}

-- ---- a file

-- Of what a text says this holds: no two values, no two refusals, and not both.
pub record Exact {X : Type 0} (Holds : X → Type 0) (Refuses : Why → Type 0) : Type 0 where
  pub value : (x y : X) → Holds x → Holds y → x ≡ y
  pub refusal : (w v : Why) → Refuses w → Refuses v → w ≡ v
  pub not_both : (x : X) (w : Why) → Holds x → Refuses w → ⊥

says_one : {X : Type 0} (name : List ℕ) (Holds : X → Type 0) (Refuses : Why → Type 0) → Exact Holds Refuses → (end other : Result X SourcesRefusal)
    → Says name Holds Refuses end → Says name Holds Refuses other → end ≡ other
says_one name Holds Refuses exact (Ok x) (Ok y) h k = ap Ok (exact.value x y h k)
says_one name Holds Refuses exact (Ok x) (Err (Refused file why)) h k = absurd (exact.not_both x why h k.1)
says_one name Holds Refuses exact (Err (Refused file why)) (Ok x) h k = absurd (exact.not_both x why k h.1)
says_one name Holds Refuses exact (Err (Refused file why)) (Err (Refused other reason)) h k =
    let names : file ≡ other = h.0 ∙ sym k.0 in
    let reasons : why ≡ reason = exact.refusal why reason h.1 k.1 in
    ap Err (ap (λ (f : List ℕ). Refused f why) names ∙ ap (λ (w : Why). Refused other w) reasons)
says_one name Holds Refuses exact (Err (FileFault file)) other h k = absurd h
says_one name Holds Refuses exact (Err Memory) other h k = absurd h
says_one name Holds Refuses exact (Ok x) (Err (FileFault file)) h k = absurd k
says_one name Holds Refuses exact (Ok x) (Err Memory) h k = absurd k
says_one name Holds Refuses exact (Err (Refused file why)) (Err (FileFault other)) h k = absurd k
says_one name Holds Refuses exact (Err (Refused file why)) (Err Memory) h k = absurd k

file_one : {X : Type 0} (Holds : List ℕ → X → Type 0) (Refuses : List ℕ → Why → Type 0) → ((text : List ℕ) → Exact (Holds text) (Refuses text))
    → (name : List ℕ) → IsOne (FileRead Holds Refuses name)
file_one Holds Refuses exact name =
    one_then (TextOf name (FileFault name)) (λ text. Decides (Says name (Holds text) (Refuses text))) (one_text name (FileFault name))
    (λ text. one_decides (Says name (Holds text) (Refuses text)) (says_one name (Holds text) (Refuses text) (exact text)))

-- ---- a source

-- what the laws of lexing and of the grammar give
pub record Grammar : Type 0 where
  pub tokens : (text : List ℕ) (a b : List Token) → Lexes text a → Lexes text b → a ≡ b
  pub place : (text : List ℕ) (a b : ℕ) → pieces.FaultsAt text a → pieces.FaultsAt text b → a ≡ b
  pub not_both : (text : List ℕ) (tokens : List Token) (at : ℕ) → Lexes text tokens → pieces.FaultsAt text at → ⊥
  pub unit : (tokens : List Token) (u v : TheUnit) → Derives tokens u → Derives tokens v → u ≡ v
  pub token : (tokens : List Token) (m n : ℕ) → grammar.FaultsAt tokens m → grammar.FaultsAt tokens n → m ≡ n
  pub none : (tokens : List Token) (n : ℕ) (u : TheUnit) → grammar.FaultsAt tokens n → Derives tokens u → ⊥

unit_one : Grammar → (text : List ℕ) (u v : TheUnit) → IsUnit text u → IsUnit text v → u ≡ v
unfolding IsUnit
unit_one g text u v (tokens, lexes, derives) (others, also, derived) =
    g.unit tokens u v derives (subst (λ (ts : List Token). Derives ts v) (g.tokens text others tokens also lexes) derived)

why_one : Grammar → (text : List ℕ) (w v : Why) → IsWhyOfSource text w → IsWhyOfSource text v → w ≡ v
why_one g text (Lex at) (Lex other) h k = ap Lex (g.place text at other h k)
why_one g text (Lex at) (Parse other) h (tokens, lexes, there) = absurd (g.not_both text tokens at lexes h)
why_one g text (Parse at) (Lex other) (tokens, lexes, there) k = absurd (g.not_both text tokens other lexes k)
why_one g text (Parse at) (Parse other) (tokens, lexes, (token, faults, is)) (others, also, (last, fails, same)) =
    let all : others ≡ tokens = g.tokens text others tokens also lexes in
    let one : last ≡ token = g.token tokens last token (subst (λ (ts : List Token). grammar.FaultsAt ts last) all fails) faults in
    let place : place_of text others last ≡ place_of text tokens token = ap (λ (ts : List Token). place_of text ts last) all ∙ ap (place_of text tokens) one in
    ap Parse (is ∙ sym place ∙ sym same)
why_one g text NotToml v h k = absurd h
why_one g text MissingKey v h k = absurd h
why_one g text WrongType v h k = absurd h
why_one g text BadName v h k = absurd h
why_one g text UnknownKit v h k = absurd h
why_one g text Cycle v h k = absurd h
why_one g text RepeatedKit v h k = absurd h
why_one g text (Lex at) NotToml h k = absurd k
why_one g text (Lex at) MissingKey h k = absurd k
why_one g text (Lex at) WrongType h k = absurd k
why_one g text (Lex at) BadName h k = absurd k
why_one g text (Lex at) UnknownKit h k = absurd k
why_one g text (Lex at) Cycle h k = absurd k
why_one g text (Lex at) RepeatedKit h k = absurd k
why_one g text (Parse at) NotToml h k = absurd k
why_one g text (Parse at) MissingKey h k = absurd k
why_one g text (Parse at) WrongType h k = absurd k
why_one g text (Parse at) BadName h k = absurd k
why_one g text (Parse at) UnknownKit h k = absurd k
why_one g text (Parse at) Cycle h k = absurd k
why_one g text (Parse at) RepeatedKit h k = absurd k

unit_or_why : Grammar → (text : List ℕ) (u : TheUnit) (w : Why) → IsUnit text u → IsWhyOfSource text w → ⊥
unfolding IsUnit
unit_or_why g text u (Lex at) (tokens, lexes, derives) k = g.not_both text tokens at lexes k
unit_or_why g text u (Parse at) (tokens, lexes, derives) (others, also, (token, faults, is)) =
    g.none others token u faults (subst (λ (ts : List Token). Derives ts u) (g.tokens text tokens others lexes also) derives)
unit_or_why g text u NotToml h k = k
unit_or_why g text u MissingKey h k = k
unit_or_why g text u WrongType h k = k
unit_or_why g text u BadName h k = k
unit_or_why g text u UnknownKit h k = k
unit_or_why g text u Cycle h k = k
unit_or_why g text u RepeatedKit h k = k

pub source_one : Grammar → (name : List ℕ) → IsOne (SourceRead name)
source_one g = file_one IsUnit IsWhyOfSource (λ text. record { value = unit_one g text; refusal = why_one g text; not_both = unit_or_why g text })

-- ---- a manifest

-- what the laws of manifests give
pub record Listed : Type 0 where
  pub manifest : (text : List ℕ) (a b : Manifest) → HasDocument text (λ table. IsManifest table a) → HasDocument text (λ table. IsManifest table b) → a ≡ b
  pub text : (text : List ℕ) (a b : ManifestFault) → IsTextRefusal text a → IsTextRefusal text b → a ≡ b
  pub not_both : (text : List ℕ) (a : Manifest) (b : ManifestFault) → HasDocument text (λ table. IsManifest table a) → IsTextRefusal text b → ⊥
  pub order : (kits : List Manifest) (a b : List ℕ) → IsOrderOf kits a → IsOrderOf kits b → a ≡ b
  pub list : (kits : List Manifest) (a b : ManifestFault) → a ≢ fault.Memory → b ≢ fault.Memory → IsListRefusal kits a → IsListRefusal kits b → a ≡ b
  pub unordered : (kits : List Manifest) (a : List ℕ) (b : ManifestFault) → b ≢ fault.Memory → IsOrderOf kits a → IsListRefusal kits b → ⊥

-- the fault that a reason tells, of the manifest of this number
abbrev fault_of : ℕ → Why → ManifestFault
fault_of at NotToml = fault.NotToml
fault_of at MissingKey = fault.MissingKey
fault_of at WrongType = fault.WrongType
fault_of at BadName = fault.BadName
fault_of at UnknownKit = fault.UnknownKit at
fault_of at Cycle = fault.Cycle at
fault_of at RepeatedKit = fault.RepeatedKit at
fault_of at (Lex place) = fault.Memory
fault_of at (Parse place) = fault.Memory

-- and the other way round
abbrev why_of : ManifestFault → Why
why_of fault.NotToml = NotToml
why_of fault.MissingKey = MissingKey
why_of fault.WrongType = WrongType
why_of fault.BadName = BadName
why_of (fault.UnknownKit at) = UnknownKit
why_of (fault.Cycle at) = Cycle
why_of (fault.RepeatedKit at) = RepeatedKit
why_of fault.Memory = NotToml

abbrev at_of : ManifestFault → ℕ
at_of (fault.UnknownKit at) = at
at_of (fault.Cycle at) = at
at_of (fault.RepeatedKit at) = at
at_of _ = 0

text_fault : (text : List ℕ) (w : Why) → IsWhyOfManifest text w → IsTextRefusal text (fault_of 0 w) × (why_of (fault_of 0 w) ≡ w)
text_fault text NotToml h = (h, refl)
text_fault text MissingKey h = (h, refl)
text_fault text WrongType h = (h, refl)
text_fault text BadName h = (h, refl)
text_fault text UnknownKit h = absurd h
text_fault text Cycle h = absurd h
text_fault text RepeatedKit h = absurd h
text_fault text (Lex at) h = absurd h
text_fault text (Parse at) h = absurd h

record IsOfList (kits : List Manifest) (at : ℕ) (w : Why) : Type 0 where
  refused : IsListRefusal kits (fault_of at w)
  told : fault_of at w ≢ fault.Memory
  why : why_of (fault_of at w) ≡ w
  place : at_of (fault_of at w) ≡ at

list_fault : (kits : List Manifest) (at : ℕ) (w : Why) → IsWhyOfList kits at w → IsOfList kits at w
list_fault kits at UnknownKit h = record { refused = h; told = λ same. cc; why = refl; place = refl }
list_fault kits at Cycle h = record { refused = h; told = λ same. cc; why = refl; place = refl }
list_fault kits at RepeatedKit h = record { refused = h; told = λ same. cc; why = refl; place = refl }
list_fault kits at NotToml h = absurd h
list_fault kits at MissingKey h = absurd h
list_fault kits at WrongType h = absurd h
list_fault kits at BadName h = absurd h
list_fault kits at (Lex place) h = absurd h
list_fault kits at (Parse place) h = absurd h

manifest_exact : Listed → (text : List ℕ) → Exact (IsTextManifest text) (IsWhyOfManifest text)
manifest_exact l text = record {
  value = l.manifest text;
  refusal = λ w v h k.
      let a = text_fault text w h in
      let b = text_fault text v k in
      sym a.1 ∙ ap why_of (l.text text (fault_of 0 w) (fault_of 0 v) a.0 b.0) ∙ b.1;
  not_both = λ m w h k. l.not_both text m (fault_of 0 w) h (text_fault text w k).0;
}

manifest_one : Listed → (name : List ℕ) → IsOne (ManifestRead name)
manifest_one l = file_one IsTextManifest IsWhyOfManifest (manifest_exact l)

ordered_one : Listed → (names : List (List ℕ)) (manifests : List Manifest) (end other : Result (List ℕ) SourcesRefusal) → IsOrdered names manifests end → IsOrdered names manifests other
    → end ≡ other
ordered_one l names manifests (Ok a) (Ok b) h k = ap Ok (l.order manifests a b h k)
ordered_one l names manifests (Ok a) (Err (Refused file why)) h (at, named, is) =
    let f = list_fault manifests at why is in absurd (l.unordered manifests a (fault_of at why) f.told h f.refused)
ordered_one l names manifests (Err (Refused file why)) (Ok a) (at, named, is) k =
    let f = list_fault manifests at why is in absurd (l.unordered manifests a (fault_of at why) f.told k f.refused)
ordered_one l names manifests (Err (Refused file why)) (Err (Refused other reason)) (at, named, is) (also, called, are) =
    let f = list_fault manifests at why is in
    let g = list_fault manifests also reason are in
    let same : fault_of at why ≡ fault_of also reason = l.list manifests (fault_of at why) (fault_of also reason) f.told g.told f.refused g.refused in
    let place : at ≡ also = sym f.place ∙ ap at_of same ∙ g.place in
    let reasons : why ≡ reason = sym f.why ∙ ap why_of same ∙ g.why in
    let files : file ≡ other = named ∙ ap (name_at names) place ∙ sym called in
    ap Err (ap (λ (x : List ℕ). Refused x why) files ∙ ap (λ (w : Why). Refused other w) reasons)
ordered_one l names manifests (Err (FileFault file)) other h k = absurd h
ordered_one l names manifests (Err Memory) other h k = absurd h
ordered_one l names manifests (Ok a) (Err (FileFault file)) h k = absurd k
ordered_one l names manifests (Ok a) (Err Memory) h k = absurd k
ordered_one l names manifests (Err (Refused file why)) (Err (FileFault other)) h k = absurd k
ordered_one l names manifests (Err (Refused file why)) (Err Memory) h k = absurd k

-- ---- kits

value_one : {X : Type 0} (x : X) → IsOne (Decides {E = SourcesRefusal} (λ end. end ≡ Ok x))
value_one x = one_decides (λ end. end ≡ Ok x) (λ end other h k. h ∙ sym k)

kit_one : Grammar → (manifest : Manifest) → IsOne (KitRead manifest)
kit_one g manifest =
    one_then (Each SourceRead manifest.files) (λ units. Decides (λ end. end ≡ Ok (kit_of manifest units))) (one_each SourceRead (source_one g) manifest.files)
    (λ units. value_one (kit_of manifest units))

kits_one : Grammar → (manifests : List Manifest) (order : List ℕ) → IsOne (KitsAt manifests order)
kits_one g manifests order =
    one_then (Each (λ place. KitRead (manifest_at manifests place)) order) (λ kits. Decides (λ end. end ≡ Ok (record { kits = kits; files = files_in manifests order })))
    (one_each (λ place. KitRead (manifest_at manifests place)) (λ place. kit_one g (manifest_at manifests place)) order)
    (λ kits. value_one (let sources : Sources = record { kits = kits; files = files_in manifests order } in sources))

pub all_one : Grammar → Listed → (names : List (List ℕ)) → IsOne (KitsRead names)
all_one g l names =
    one_then (Each ManifestRead names) (KnownRead names) (one_each ManifestRead (manifest_one l) names)
    (λ manifests. one_then (Decides (IsOrdered names manifests)) (KitsAt manifests)
    (one_decides (IsOrdered names manifests) (ordered_one l names manifests)) (kits_one g manifests))

-- ---- which reads failed

fails_file : {X : Type 0} (Holds : List ℕ → X → Type 0) (Refuses : List ℕ → Why → Type 0) (name : List ℕ) → Fails failed_of (FileRead Holds Refuses name)
fails_file Holds Refuses name =
    fails_then failed_of (TextOf name (FileFault name)) (λ text. Decides (Says name (Holds text) (Refuses text))) (fails_text failed_of name (FileFault name) refl)
    (λ text. fails_decides failed_of (Says name (Holds text) (Refuses text)) (no_fault name (Holds text) (Refuses text)))
  where
    no_fault : {X : Type 0} (file : List ℕ) (H : X → Type 0) (R : Why → Type 0) (end : Result X SourcesRefusal) → Says file H R end → end_names failed_of end ≡ []
    no_fault file H R (Ok x) h = refl
    no_fault file H R (Err (Refused f why)) h = refl
    no_fault file H R (Err (FileFault f)) h = absurd h
    no_fault file H R (Err Memory) h = absurd h

fails_order : (names : List (List ℕ)) (manifests : List Manifest) (end : Result (List ℕ) SourcesRefusal) → IsOrdered names manifests end → end_names failed_of end ≡ []
fails_order names manifests (Ok order) h = refl
fails_order names manifests (Err (Refused f why)) h = refl
fails_order names manifests (Err (FileFault f)) h = absurd h
fails_order names manifests (Err Memory) h = absurd h

fails_kit : (manifest : Manifest) → Fails failed_of (KitRead manifest)
fails_kit manifest =
    fails_then failed_of (Each SourceRead manifest.files) (λ units. Decides (λ end. end ≡ Ok (kit_of manifest units)))
    (fails_each failed_of SourceRead (fails_file IsUnit IsWhyOfSource) manifest.files) (λ units. fails_value failed_of (kit_of manifest units))

fails_kits : (manifests : List Manifest) (order : List ℕ) → Fails failed_of (KitsAt manifests order)
fails_kits manifests order =
    fails_then failed_of (Each (λ place. KitRead (manifest_at manifests place)) order) (λ kits. Decides (λ end. end ≡ Ok (record { kits = kits; files = files_in manifests order })))
    (fails_each failed_of (λ place. KitRead (manifest_at manifests place)) (λ place. fails_kit (manifest_at manifests place)) order)
    (λ kits. fails_value failed_of (let sources : Sources = record { kits = kits; files = files_in manifests order } in sources))

fails_all : (names : List (List ℕ)) → Fails failed_of (KitsRead names)
fails_all names =
    fails_then failed_of (Each ManifestRead names) (KnownRead names) (fails_each failed_of ManifestRead (fails_file IsTextManifest IsWhyOfManifest) names)
    (λ manifests. fails_then failed_of (Decides (IsOrdered names manifests)) (KitsAt manifests)
    (fails_decides failed_of (IsOrdered names manifests) (fails_order names manifests)) (fails_kits manifests))

same_names : {X : Type 0} (end : Result X SourcesRefusal) → end_names failed_of end ≡ failed_in end
same_names (Ok x) = refl
same_names (Err refusal) = refl

pub kits_failed : (names : List (List ℕ)) (reads : List Read) (end : Result Sources SourcesRefusal) → KitsRead names reads end → failed_names reads ≡ failed_in end
kits_failed names reads end is = fails_all names reads end is ∙ same_names end

pub source_failed : (name : List ℕ) (reads : List Read) (end : Result TheUnit SourcesRefusal) → SourceRead name reads end → failed_names reads ≡ failed_in end
source_failed name reads end is = fails_file IsUnit IsWhyOfSource name reads end is ∙ same_names end
