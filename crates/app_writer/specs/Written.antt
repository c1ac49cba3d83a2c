-- What a file has of a component, by its id and by what is found of it.
use Rattle.std.specs.Prelude.{ℕ, List, [], ◌++◌, Option}
use Rattle.std.specs.Option.{option_map_or}
use Rattle.std.specs.List.{flat_map}
use Rattle.std.specs.FinMap as map
use Rattle.sed_value.specs.declared.id.Id.{Id}
use Rattle.sed_engine.specs.Code.{Meaning}
use Rattle.comp_tree.specs.Application.{ById, Component, Link, children_of}
use Rattle.comp_tree.specs.Parts.{class_bytes, link_bytes, no_id, text, u1, u2}
use Rattle.comp_tree.specs.declared.entry.Entry.{Entry}
use Rattle.app_file.specs.Rows.{row_of, rows_of}
use Rattle.app_file.specs.Text.{front_text, greatest_of, row_text, version}
use Rattle.app_parts.specs.Values.{values_bytes}
use Rattle.app_parts.specs.declared.values.Values.TheVariants.{Config}

-- the row of the component with an id, where there is one
abbrev pub row_at : Meaning → ById → ℕ → List ℕ
row_at m all id = option_map_or (λ (c : Component). row_text m (row_of m (children_of all) id c)) (map.get all id) []

abbrev pub id_or_none : Option Id → List ℕ
id_or_none id = u2 (option_map_or (λ (i : Id). i.0) id no_id)

-- the same by what is found of it, with its first child and the sibling behind it
abbrev pub head_text : Meaning → ℕ → Entry → List ℕ
head_text m id e = u2 id ++ class_bytes m e.kind.0 ++ text e.name

abbrev pub ids_text : Option Id → Option Id → Option Id → List ℕ
ids_text parent first_child next_sibling = id_or_none parent ++ id_or_none first_child ++ id_or_none next_sibling

abbrev pub found_text : Meaning → ById → ℕ → Entry → Option Id → Option Id → List ℕ
found_text m all id e first_child next_sibling =
    head_text m id e ++ ids_text e.parent first_child next_sibling ++ values_bytes m all id e.kind.0 Config ++ u1 0x3b

-- all rows, and all links
abbrev pub rows_text : Meaning → ById → List ℕ
rows_text m all = flat_map (row_text m) (rows_of m all)

abbrev pub links_text : List Link → List ℕ
links_text links = flat_map link_bytes links

-- what stands before the links
abbrev pub components_text : Meaning → ById → List ℕ
components_text m all = u2 (greatest_of (map.keys all)) ++ rows_text m all ++ u2 no_id

abbrev pub tree_text : Meaning → ById → List ℕ
tree_text m all = front_text version m.schema.kits ++ components_text m all
