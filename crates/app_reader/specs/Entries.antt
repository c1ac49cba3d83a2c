-- The entries of which a tree of components is built, as rows tell of them.
use Rattle.std.specs.Prelude.{ℕ, ◌<◌, List, [], length, map as map_list, slice_get}
use Rattle.std.specs.List.{Contains}
use Rattle.std.specs.Option.{option_map_or}
use Rattle.sed_value.specs.declared.id.Id.{Id}
use Rattle.comp_tree.specs.declared.loaded.Loaded.{Loaded}
use Rattle.row_tree.specs.TreeRows.{place_of}
use Rattle.row_tree.specs.Tree.{list_at}
use Rattle.app_front.specs.declared.rows.FileRow.{FileRow}
use Rattle.app_reader.specs.FormedFile.{tree_rows}

-- the id of the row at a place
abbrev pub id_there : List FileRow → ℕ → Id
id_there rows place = option_map_or (λ (r : FileRow). r.id) (slice_get rows place) (record { 0 = 0 })

abbrev pub ids_there : List FileRow → List ℕ → List Id
ids_there rows places = map_list (id_there rows) places

-- no place is behind the rows
abbrev pub AreWithin : List FileRow → List ℕ → Type 0
AreWithin rows places = (place : ℕ) → Contains places place → place < length rows

-- the entry of a row whose children stand at these places
abbrev pub entry_with : List FileRow → FileRow → List ℕ → Loaded
entry_with rows r places = record {
  id = r.id;
  kind = r.kind;
  name = r.name;
  parent = r.parent;
  children = ids_there rows places;
  config = r.config;
}

-- the places of the children of an id
abbrev pub places_of : List FileRow → List (List ℕ) → ℕ → List ℕ
places_of rows lists id = option_map_or (list_at lists) (place_of (tree_rows rows) id) []

abbrev pub entry_of : List FileRow → List (List ℕ) → FileRow → Loaded
entry_of rows lists r = entry_with rows r (places_of rows lists r.id.0)

abbrev pub entries_of : List FileRow → List (List ℕ) → List Loaded
entries_of rows lists = map_list (entry_of rows lists) rows
