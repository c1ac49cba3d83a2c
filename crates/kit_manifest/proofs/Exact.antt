-- What was read of a table is its manifest, and the only one.
use Rattle.std.proofs.Common.{◌≡◌, true, false, ℕ, List, [], ◌∷◌, Option, Some, None, option_map, Result, Ok, Err, refl, sym, ap, subst, ◌∙◌}
use Rattle.std.specs.Prelude.{MatchOption, MatchResult}
use Rattle.std.specs.List.{list_all}
use Rattle.sed_value.specs.Names.{is_kit_name}
use Rattle.toml.specs.Data.{Data, string, integer, float, boolean, datetime, array, table, Items, no_items, item, Members, as_str}
use Rattle.kit_manifest.specs.Fault.{RefusesWhere}
use Rattle.kit_manifest.specs.Reading.{strings, texts_of_items, texts_of, name_in, version_in, depends_in, files_in, IsManifest, IsDocument, HasDocument, lacks_key, has_wrong_type, has_bad_name, fails, are_texts, are_kit_texts, HasWrongType, HasBadName, IsRefusal}
use Rattle.kit_manifest.specs.declared.fault.ManifestFault.{ManifestFault}
use Rattle.kit_manifest.specs.declared.fault.ManifestFault.TheVariants.{NotToml, MissingKey, WrongType, BadName, UnknownKit, Cycle, RepeatedKit, Memory}
use Rattle.std.proofs.lemmas.Bool.{and_parts}
use Rattle.kit_manifest.specs.declared.manifest.Manifest.{Manifest}

-- a string, and an array of strings, from what the accessors gave
pub string_from-as_str : (d : Data) (text : List ℕ) → as_str d ≡ Some text → d ≡ string text
string_from-as_str (string s) text is = cc
string_from-as_str (integer z) text is = cc
string_from-as_str (float x) text is = cc
string_from-as_str (boolean b) text is = cc
string_from-as_str (datetime dt) text is = cc
string_from-as_str (array ds) text is = cc
string_from-as_str (table ms) text is = cc

rest_of_some : (text : List ℕ) (rest : Option (List (List ℕ))) (texts : List (List ℕ)) → option_map (λ more. text ∷ more) rest ≡ Some texts
    → (more : List (List ℕ)) × (rest ≡ Some more) × (text ∷ more ≡ texts)
rest_of_some text None texts is = absurd (cc)
rest_of_some text (Some more) texts is = (more, refl, cc)

pub strings_from-texts : (items : Items) (texts : List (List ℕ)) → texts_of_items items ≡ Some texts → items ≡ strings texts
strings_from-texts no_items texts is = let none : [] ≡ texts = cc in ap strings none
strings_from-texts (item (string s) items) texts is =
    let (more, rest_is, all) = rest_of_some s (texts_of_items items) texts is in
    ap (item (string s)) (strings_from-texts items more rest_is) ∙ ap strings all
strings_from-texts (item (integer z) items) texts is = cc
strings_from-texts (item (float x) items) texts is = cc
strings_from-texts (item (boolean b) items) texts is = cc
strings_from-texts (item (datetime dt) items) texts is = cc
strings_from-texts (item (array ds) items) texts is = cc
strings_from-texts (item (table ms) items) texts is = cc

pub array_from-texts : (d : Data) (texts : List (List ℕ)) → texts_of d ≡ Some texts → d ≡ array (strings texts)
array_from-texts (string s) texts is = cc
array_from-texts (integer z) texts is = cc
array_from-texts (float x) texts is = cc
array_from-texts (boolean b) texts is = cc
array_from-texts (datetime dt) texts is = cc
array_from-texts (array ds) texts is = ap array (strings_from-texts ds texts is)
array_from-texts (table ms) texts is = cc

depends_from-texts : (value : Option Data) (depends : List (List ℕ)) → MatchOption value (depends ≡ []) (λ d. texts_of d ≡ Some depends)
    → MatchOption value (depends ≡ []) (λ d. d ≡ array (strings depends))
depends_from-texts None depends is = is
depends_from-texts (Some d) depends is = array_from-texts d depends is

-- the dependences as texts, and as names of kits
pub depends-as_names : (value : Option Data) (texts names : List (List ℕ)) → names ≡ texts
    → MatchOption value (texts ≡ []) (λ d. texts_of d ≡ Some texts) → MatchOption value (names ≡ []) (λ d. texts_of d ≡ Some names)
depends-as_names None texts names same none = same ∙ none
depends-as_names (Some d) texts names same is = is ∙ ap Some (sym same)

pub IsManifest-from_parts : (ms : Members) (name_value version_value files_value : Data) (name version : List ℕ) (depends files : List (List ℕ))
    → Some name_value ≡ name_in ms → as_str name_value ≡ Some name
    → Some version_value ≡ version_in ms → as_str version_value ≡ Some version
    → Some files_value ≡ files_in ms → texts_of files_value ≡ Some files
    → MatchOption (depends_in ms) (depends ≡ []) (λ d. texts_of d ≡ Some depends)
    → is_kit_name name ≡ true → list_all is_kit_name depends ≡ true
    → IsManifest ms (record { name = name; version = version; depends = depends; files = files })
IsManifest-from_parts ms name_value version_value files_value name version depends files at_name is_name at_version is_version at_files are_files are_depends named all_named =
    record {
      name = sym at_name ∙ ap Some (string_from-as_str name_value name is_name);
      version = sym at_version ∙ ap Some (string_from-as_str version_value version is_version);
      depends = depends_from-texts (depends_in ms) depends are_depends;
      files = sym at_files ∙ ap Some (array_from-texts files_value files are_files);
      kits = rw (named, all_named);
    }

-- a manifest is complete, typed and well named
pub texts_of-strings : (texts : List (List ℕ)) → texts_of_items (strings texts) ≡ Some texts
texts_of-strings [] = refl
texts_of-strings (text ∷ texts) = ap (option_map (λ more. text ∷ more)) (texts_of-strings texts)

pub complete : (ms : Members) (m : Manifest) → IsManifest ms m → lacks_key ms ≡ false
complete ms m is = rw (is.name, is.version, is.files)

typed_depends : (value : Option Data) (depends : List (List ℕ)) → MatchOption value (depends ≡ []) (λ d. d ≡ array (strings depends)) → fails are_texts value ≡ false
typed_depends None depends is = refl
typed_depends (Some d) depends is = rw is (rw (texts_of-strings depends))

pub typed : (ms : Members) (m : Manifest) → IsManifest ms m → has_wrong_type ms ≡ false
typed ms m is = rw (is.name, is.version, is.files) (rw (texts_of-strings m.files) (typed_depends (depends_in ms) m.depends is.depends))

named_depends : (value : Option Data) (depends : List (List ℕ)) → MatchOption value (depends ≡ []) (λ d. d ≡ array (strings depends)) → list_all is_kit_name depends ≡ true
    → fails are_kit_texts value ≡ false
named_depends None depends is named = refl
named_depends (Some d) depends is named = rw is (rw (texts_of-strings depends) (rw named))

pub well_named : (ms : Members) (m : Manifest) → IsManifest ms m → has_bad_name ms ≡ false
well_named ms m is =
    let (first, more) = and_parts (is_kit_name m.name) (list_all is_kit_name m.depends) is.kits in
    rw is.name (rw first (named_depends (depends_in ms) m.depends is.depends more))

-- a table has one manifest
same_texts : (a b : List (List ℕ)) → Some (array (strings a)) ≡ Some (array (strings b)) → a ≡ b
same_texts a b same =
    let items : strings a ≡ strings b = cc in
    let read : Some a ≡ Some b = sym (texts_of-strings a) ∙ ap texts_of_items items ∙ texts_of-strings b in
    cc

same_depends : (value : Option Data) (a b : List (List ℕ)) → MatchOption value (a ≡ []) (λ d. d ≡ array (strings a)) → MatchOption value (b ≡ []) (λ d. d ≡ array (strings b)) → a ≡ b
same_depends None a b is other = is ∙ sym other
same_depends (Some d) a b is other = same_texts a b (ap Some (sym is ∙ other))

same_fields : (n n2 : List ℕ) (v v2 : List ℕ) (d d2 : List (List ℕ)) (f f2 : List (List ℕ)) → n ≡ n2 → v ≡ v2 → d ≡ d2 → f ≡ f2
    → ◌≡◌ {A = Manifest} (record { name = n; version = v; depends = d; files = f }) (record { name = n2; version = v2; depends = d2; files = f2 })
same_fields n n2 v v2 d d2 f f2 a b c e = cc

pub only_manifest : (ms : Members) (a b : Manifest) → IsManifest ms a → IsManifest ms b → a ≡ b
only_manifest ms a b is other =
    let name : Some (string a.name) ≡ Some (string b.name) = sym is.name ∙ other.name in
    let version : Some (string a.version) ≡ Some (string b.version) = sym is.version ∙ other.version in
    let names : a.name ≡ b.name = cc in
    let versions : a.version ≡ b.version = cc in
    let depends : a.depends ≡ b.depends = same_depends (depends_in ms) a.depends b.depends is.depends other.depends in
    let files : a.files ≡ b.files = same_texts a.files b.files (sym is.files ∙ other.files) in
    same_fields a.name b.name a.version b.version a.depends b.depends a.files b.files names versions depends files

-- a text is the document of one table
pub only_table : (text : List ℕ) (a b : Members) → IsDocument text a → IsDocument text b → a ≡ b
only_table text a b is other = let same : Some a ≡ Some b = sym is.1 ∙ other.1 in cc

-- the manifest comes unless memory is wanted
found : (ms : Members) (result : Result Manifest ManifestFault) (m : Manifest) → MatchResult result (IsManifest ms) (IsRefusal ms) → IsManifest ms m
    → (result ≡ Err Memory → ⊥) → result ≡ Ok m
found ms (Ok a) m answer is ample = ap Ok (only_manifest ms a m answer is)
found ms (Err MissingKey) m answer is ample = absurd (let no = complete ms m is in cc)
found ms (Err WrongType) m answer is ample = absurd (let no = typed ms m is in let yes = answer.wrong in cc)
found ms (Err BadName) m answer is ample = absurd (let no = well_named ms m is in let yes = answer.bad in cc)
found ms (Err Memory) m answer is ample = absurd (ample refl)
found ms (Err NotToml) m answer is ample = absurd answer
found ms (Err (UnknownKit _)) m answer is ample = absurd answer
found ms (Err (Cycle _)) m answer is ample = absurd answer
found ms (Err (RepeatedKit _)) m answer is ample = absurd answer

pub manifest_comes : (text : List ℕ) (ms : Members) (result : Result Manifest ManifestFault) → IsDocument text ms → MatchResult result (IsManifest ms) (IsRefusal ms)
    → (m : Manifest) → HasDocument text (λ ms. IsManifest ms m) → (result ≡ Err Memory → ⊥) → result ≡ Ok m
manifest_comes text ms result is answer m (other, is_other, says) ample =
    let same : other ≡ ms = only_table text other ms is_other is in
    found ms result m answer (subst (λ t. IsManifest t m) same says) ample

-- a wrong type comes unless memory is wanted
refused_type : (ms : Members) (result : Result Manifest ManifestFault) → MatchResult result (IsManifest ms) (IsRefusal ms) → HasWrongType ms
    → (result ≡ Err Memory → ⊥) → result ≡ Err WrongType
refused_type ms (Ok a) answer is ample = absurd (let no = typed ms a answer in let yes = is.wrong in cc)
refused_type ms (Err MissingKey) answer is ample = absurd (let no = is.complete in cc)
refused_type ms (Err WrongType) answer is ample = refl
refused_type ms (Err BadName) answer is ample = absurd (let no = answer.typed in let yes = is.wrong in cc)
refused_type ms (Err Memory) answer is ample = absurd (ample refl)
refused_type ms (Err NotToml) answer is ample = absurd answer
refused_type ms (Err (UnknownKit _)) answer is ample = absurd answer
refused_type ms (Err (Cycle _)) answer is ample = absurd answer
refused_type ms (Err (RepeatedKit _)) answer is ample = absurd answer

pub wrong_type_where : (text : List ℕ) (ms : Members) (result : Result Manifest ManifestFault) → IsDocument text ms → MatchResult result (IsManifest ms) (IsRefusal ms)
    → RefusesWhere result WrongType (HasDocument text HasWrongType)
wrong_type_where text ms result is answer = record {
  only = λ wrong. (ms, is, subst (λ r. MatchResult r (IsManifest ms) (IsRefusal ms)) wrong answer);
  comes = λ (other, is_other, wrong) ample. refused_type ms result answer (subst HasWrongType (only_table text other ms is_other is) wrong) ample;
}

-- a bad name comes unless memory is wanted
refused_name : (ms : Members) (result : Result Manifest ManifestFault) → MatchResult result (IsManifest ms) (IsRefusal ms) → HasBadName ms
    → (result ≡ Err Memory → ⊥) → result ≡ Err BadName
refused_name ms (Ok a) answer is ample = absurd (let no = well_named ms a answer in let yes = is.bad in cc)
refused_name ms (Err MissingKey) answer is ample = absurd (let no = is.complete in cc)
refused_name ms (Err WrongType) answer is ample = absurd (let no = is.typed in let yes = answer.wrong in cc)
refused_name ms (Err BadName) answer is ample = refl
refused_name ms (Err Memory) answer is ample = absurd (ample refl)
refused_name ms (Err NotToml) answer is ample = absurd answer
refused_name ms (Err (UnknownKit _)) answer is ample = absurd answer
refused_name ms (Err (Cycle _)) answer is ample = absurd answer
refused_name ms (Err (RepeatedKit _)) answer is ample = absurd answer

pub bad_name_where : (text : List ℕ) (ms : Members) (result : Result Manifest ManifestFault) → IsDocument text ms → MatchResult result (IsManifest ms) (IsRefusal ms)
    → RefusesWhere result BadName (HasDocument text HasBadName)
bad_name_where text ms result is answer = record {
  only = λ bad. (ms, is, subst (λ r. MatchResult r (IsManifest ms) (IsRefusal ms)) bad answer);
  comes = λ (other, is_other, bad) ample. refused_name ms result answer (subst HasBadName (only_table text other ms is_other is) bad) ample;
}
