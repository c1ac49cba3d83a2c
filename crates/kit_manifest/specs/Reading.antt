-- What a TOML document says of a kit, and when it says too little.
use Rattle.std.specs.Prelude.{◌≡◌, ℕ, Bool, true, false, not, ◌||◌, List, [], ◌∷◌, Option, Some, None, is_some, is_none}
use Rattle.std.specs.Prelude.{option_map, codes, IsTrue, IsUtf8, MatchOption}
use Rattle.std.specs.List.{list_all}
use Rattle.std.specs.Option.{option_map_or}
use Rattle.sed_value.specs.Names.{is_kit_name}
use Rattle.toml.specs.Data.{Data, string, array, Items, no_items, item, Members, get_member, as_str}
use Rattle.toml.specs.Parse.{parse_document}
use Rattle.kit_manifest.specs.declared.fault.ManifestFault.{ManifestFault}
use Rattle.kit_manifest.specs.declared.fault.ManifestFault.TheVariants.{NotToml, MissingKey, WrongType, BadName, Memory}
use Rattle.kit_manifest.specs.declared.manifest.Manifest.{Manifest}

-- The text is the TOML document of this table.
abbrev pub IsDocument : List ℕ → Members → Type 0
IsDocument text table = IsUtf8 text × (parse_document text ≡ Some table)

-- The values at the four keys of a manifest.
abbrev pub name_in : Members → Option Data
name_in table = get_member (codes "name") table

abbrev pub version_in : Members → Option Data
version_in table = get_member (codes "version") table

abbrev pub depends_in : Members → Option Data
depends_in table = get_member (codes "depends") table

abbrev pub files_in : Members → Option Data
files_in table = get_member (codes "files") table

-- An array of these strings.
abbrev pub strings : List (List ℕ) → Items
strings [] = no_items
strings (text ∷ texts) = item (string text) (strings texts)

-- The strings of an array that has strings alone.
abbrev pub texts_of_items : Items → Option (List (List ℕ))
texts_of_items no_items = Some []
texts_of_items (item (string text) items) = option_map (λ texts. text ∷ texts) (texts_of_items items)
texts_of_items (item _ items) = None

abbrev pub texts_of : Data → Option (List (List ℕ))
texts_of (array items) = texts_of_items items
texts_of _ = None

-- The table says this of a kit: each key has a value of its type, and the names of kits have their form. Without the
-- key `depends` the kit depends on none.
pub record IsManifest (table : Members) (manifest : Manifest) : Type 0 where
  pub name : name_in table ≡ Some (string manifest.name)
  pub version : version_in table ≡ Some (string manifest.version)
  pub depends : MatchOption (depends_in table) (manifest.depends ≡ [])
      (λ value. value ≡ array (strings manifest.depends))
  pub files : files_in table ≡ Some (array (strings manifest.files))
  pub kits : IsTrue (list_all is_kit_name (manifest.name ∷ manifest.depends))

-- One of the keys that a manifest has is absent; `depends` may be.
abbrev pub lacks_key : Members → Bool
lacks_key table = (is_none (name_in table) || is_none (version_in table)) || is_none (files_in table)

-- The value is there, and fails the test.
abbrev pub fails : (Data → Bool) → Option Data → Bool
fails test None = false
fails test (Some value) = not (test value)

abbrev pub is_text : Data → Bool
is_text value = is_some (as_str value)

abbrev pub are_texts : Data → Bool
are_texts value = is_some (texts_of value)

-- One of the four keys has a value of another type.
abbrev pub has_wrong_type : Members → Bool
has_wrong_type table =
    ((fails is_text (name_in table) || fails is_text (version_in table)) || fails are_texts (files_in table))
    || fails are_texts (depends_in table)

abbrev pub is_kit_text : Data → Bool
is_kit_text value = option_map_or is_kit_name (as_str value) false

abbrev pub are_kit_texts : Data → Bool
are_kit_texts value = option_map_or (list_all is_kit_name) (texts_of value) false

-- The name, or one of those in `depends`, is not of the form of a kit's name.
abbrev pub has_bad_name : Members → Bool
has_bad_name table = fails is_kit_text (name_in table) || fails are_kit_texts (depends_in table)

-- The text is a document of which the fact holds.
abbrev pub HasDocument : List ℕ → (Members → Type 0) → Type 0
HasDocument text Holds = (table : Members) × IsDocument text table × Holds table

-- The refusals of a table, each where none before it holds.
abbrev pub LacksKey : Members → Type 0
LacksKey table = lacks_key table ≡ true

pub record HasWrongType (table : Members) : Type 0 where
  pub complete : lacks_key table ≡ false
  pub wrong : has_wrong_type table ≡ true

pub record HasBadName (table : Members) : Type 0 where
  pub complete : lacks_key table ≡ false
  pub typed : has_wrong_type table ≡ false
  pub bad : has_bad_name table ≡ true

-- The fault is the refusal of the table, or want of memory.
abbrev pub IsRefusal : Members → ManifestFault → Type 0
IsRefusal table MissingKey = LacksKey table
IsRefusal table WrongType = HasWrongType table
IsRefusal table BadName = HasBadName table
IsRefusal table Memory = Unit {0}
IsRefusal table _ = ⊥

-- The fault is the refusal of the text, which is a document of no manifest.
abbrev pub IsTextRefusal : List ℕ → ManifestFault → Type 0
IsTextRefusal text NotToml = (table : Members) → IsDocument text table → ⊥
IsTextRefusal text MissingKey = HasDocument text LacksKey
IsTextRefusal text WrongType = HasDocument text HasWrongType
IsTextRefusal text BadName = HasDocument text HasBadName
IsTextRefusal text _ = ⊥
