-- The text of an application.
use Rattle.std.specs.Prelude.{ℕ, ◌≡◌, ◌≤◌, ◌⊎◌, List, ◌++◌, length, fold, max, Option}
use Rattle.std.specs.Option.{option_map_or}
use Rattle.std.specs.List.{flat_map}
use Rattle.std.specs.FinMap as map
use Rattle.sed_value.specs.declared.kit.KitRef.{KitRef}
use Rattle.sed_engine.specs.Code.{Meaning}
use Rattle.sed_wire.specs.Number.{u4}
use Rattle.comp_tree.specs.Application.{Application, ById, Link}
use Rattle.comp_tree.specs.Edit.{kit_bytes}
use Rattle.comp_tree.specs.Parts.{class_bytes, link_bytes, no_id, text, u1, u2}
use Rattle.comp_tree.specs.Values.{spelling_of_all}
use Rattle.comp_tree.specs.Whole.{Each}
use Rattle.app_file.specs.Rows.{Row, rows_of}

-- ---- the front

-- what begins each file, as characters `sapp`
abbrev pub file_mark : ℕ
file_mark = 0x73617070

-- the version that is written, and the one before it, which is still read
abbrev pub version : ℕ
version = 4

abbrev pub old_version : ℕ
old_version = 3

-- how many kits there are, and the name and the checksum of each
abbrev pub kits_text : List KitRef → List ℕ
kits_text kits = u1 (length kits) ++ flat_map kit_bytes kits

abbrev pub front_text : ℕ → List KitRef → List ℕ
front_text version kits = u4 file_mark ++ u4 version ++ kits_text kits

-- ---- components

-- an id, or the number that no component has
abbrev pub id_text : Option ℕ → List ℕ
id_text id = u2 (option_map_or (λ id. id) id no_id)

-- the id, the kit and the type, the name, the parent, the first child, the next sibling, the config values, and `;`
abbrev pub row_text : Meaning → Row → List ℕ
row_text m r =
    u2 r.id ++ class_bytes m r.class ++ text r.name ++ id_text r.parent
    ++ id_text r.first_child ++ id_text r.next_sibling
    ++ spelling_of_all r.config ++ u1 0x3b

-- ---- the file

abbrev pub greatest_of : List ℕ → ℕ
greatest_of ids = fold max 0 ids

-- behind the front: the greatest id, the components, the links, each list ended by the number that no component has,
-- and `.`
abbrev pub body_text : Meaning → ℕ → List Row → List Link → List ℕ
body_text m greatest rows links =
    u2 greatest ++ flat_map (row_text m) rows ++ u2 no_id ++ flat_map link_bytes links ++ u2 no_id ++ u1 0x2e

abbrev pub file_text : ℕ → Meaning → Application → List ℕ
file_text version m a =
    front_text version m.schema.kits
    ++ body_text m (greatest_of (map.keys a.components.by_id)) (rows_of m a.components.by_id) a.links

-- what is written of an application
abbrev pub app_text : Meaning → Application → List ℕ
app_text m a = file_text version m a

-- what was written of it before names could be long
abbrev pub old_text : Meaning → Application → List ℕ
old_text m a = file_text old_version m a

-- a name had 1 to 7 characters then
abbrev pub longest_old_name : ℕ
longest_old_name = 7

abbrev pub HasShortNames : ById → Type 0
HasShortNames all = Each all (λ id c. length c.name ≤ longest_old_name)

abbrev pub AppText : Meaning → Application → List ℕ → Type 0
AppText m a bytes = bytes ≡ app_text m a

pub record OldText (m : Meaning) (a : Application) (bytes : List ℕ) : Type 0 where
  pub text : bytes ≡ old_text m a
  pub short : HasShortNames a.components.by_id

-- the bytes are a text of the application, of the one kind or the other
abbrev pub IsTextOf : Meaning → Application → List ℕ → Type 0
IsTextOf m a bytes = AppText m a bytes ⊎ OldText m a bytes
