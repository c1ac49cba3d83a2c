-- What has to hold of the rows and links of a file, so that they tell an application.
use Rattle.std.specs.Prelude.{ℕ, ◌≡◌, ◌<◌, ◌≤◌, not, is_some, IsTrue, IfSome, List, [], length, codes, map as map_list}
use Rattle.std.specs.Prelude.{slice_get, Option, Some}
use Rattle.std.specs.List.{All, AllPairs, IsDistinct}
use Rattle.std.specs.Option.{option_and_then, option_map_or}
use Rattle.std.specs.Str.{bytes_eq}
use Rattle.sed_value.specs.declared.slot_type.SlotType.{SlotType}
use Rattle.sed_typed.specs.Schemas.{type_at as class_numbered}
use Rattle.sed_typed.specs.SysTypes.{app_type}
use Rattle.sed_engine.specs.Code.{Meaning, property_type, slot_form}
use Rattle.comp_tree.specs.Application.{Link}
use Rattle.comp_tree.specs.Links.{go_together_if_there, is_before}
use Rattle.comp_tree.specs.Parts.{config_slots, values_in}
use Rattle.comp_tree.specs.Refusals.{is_abstract_class, is_for_components}
use Rattle.row_tree.specs.TreeRows.{Ascend, place_of}
use Rattle.row_tree.specs.Tree.{IsTreeOf}
use Rattle.row_tree.specs.declared.tree_rows.TreeRow.{TreeRow}
use Rattle.app_file.specs.Telling.{told_component}
use Rattle.app_file.specs.Text.{greatest_of, longest_old_name, old_version}
use Rattle.app_front.specs.Rows.{number_of_id, told_row}
use Rattle.app_front.specs.declared.rows.FileRow.{FileRow}
use Rattle.app_front.specs.declared.rows.FileRows.{FileRows}

-- ---- rows by their ids

-- what a row tells of the tree
abbrev pub tree_row : FileRow → TreeRow
tree_row r = record {
  id = r.id.0;
  parent = number_of_id r.parent;
  first_child = number_of_id r.first_child;
  next_sibling = number_of_id r.next_sibling;
}

abbrev pub tree_rows : List FileRow → List TreeRow
tree_rows rows = map_list tree_row rows

-- the row with an id
abbrev pub row_with : List FileRow → ℕ → Option FileRow
row_with rows id = option_and_then (slice_get rows) (place_of (tree_rows rows) id)

abbrev pub name_in : List FileRow → ℕ → List ℕ
name_in rows id = option_map_or (λ (r : FileRow). r.name) (row_with rows id) []

-- the type of a slot that is a property
abbrev pub type_in : Meaning → List FileRow → ℕ → ℕ → Option SlotType
type_in m rows id slot = property_type (option_and_then (λ (r : FileRow). slot_form m r.kind.0 slot) (row_with rows id))

-- ---- what holds

-- the App's row
pub record IsAppRow (m : Meaning) (r : FileRow) : Type 0 where
  pub class : class_numbered m.schema.classes 0 app_type ≡ Some r.kind.0
  pub name : r.name ≡ codes "app"

-- any other row
pub record IsOtherRow (m : Meaning) (r : FileRow) : Type 0 where
  pub component : IsTrue (is_for_components m r.kind.0)
  pub concrete : IsTrue (not (is_abstract_class m r.kind.0))

-- once the row's values are stored in a new object, in the order of the slots, each slot gives the value that the row
-- gives for it
abbrev pub GivesItsValues : Meaning → FileRow → Type 0
GivesItsValues m r = values_in m (told_component m (told_row r) []) (config_slots m r.kind.0) ≡ r.config

-- between properties of rows that are there, whose types go together
pub record IsLinkIn (m : Meaning) (rows : List FileRow) (l : Link) : Type 0 where
  pub from : IsTrue (is_some (row_with rows l.from))
  pub to : IsTrue (is_some (row_with rows l.to))
  pub typed : IsTrue (go_together_if_there (type_in m rows l.from l.from_slot) (type_in m rows l.to l.to_slot))

-- with these children of each id
pub record IsFormedFile (m : Meaning) (f : FileRows) (children : ℕ → List ℕ) : Type 0 where
  pub ascend : Ascend (tree_rows f.rows)
  pub tree : IsTreeOf (tree_rows f.rows) children
  pub app : IfSome (slice_get f.rows 0) (IsAppRow m)
  pub others : (place : ℕ) → 0 < place → IfSome (slice_get f.rows place) (IsOtherRow m)
  pub siblings : All (λ (r : FileRow). IsDistinct bytes_eq (map_list (name_in f.rows) (children r.id.0))) f.rows
  pub gives : All (GivesItsValues m) f.rows
  pub links : All (IsLinkIn m f.rows) f.links
  pub order : AllPairs (λ k l. IsTrue (is_before k l)) f.links
  pub greatest : f.greatest ≡ greatest_of (map_list (λ (r : FileRow). r.id.0) f.rows)
  pub short : f.version ≡ old_version → All (λ (r : FileRow). length r.name ≤ longest_old_name) f.rows
