-- The entries of rows that pass no limit are such as a tree is built of.
use Rattle.std.proofs.Common.{◌≡◌, ℕ, zero, suc, ◌<◌, ◌≤◌, false, IsTrue, List, [], ◌∷◌, length, map as map_list, refl, sym, ◌∙◌, ap, subst, arith}
use Rattle.std.specs.Prelude.{Option, Some, None, nat_eq, nat_le, nat_lt, slice_get}
use Rattle.std.specs.List.{AllByRecursion, IsDistinct}
use Rattle.std.specs.Option.{option_map, option_map_or}
use Rattle.std.proofs.lemmas.Bool.Decides.{nat_tests}
use Rattle.std.proofs.lemmas.List.{length-map}
use Rattle.std.proofs.lemmas.Option.{slice_get-map}
use Rattle.sed_engine.specs.Code.{Meaning, is_creatable}
use Rattle.sed_engine.specs.Whole.{HasTables}
use Rattle.comp_tree.specs.Application.{Application, ById, children_of, is_live, most_children, most_components, parent_of}
use Rattle.comp_tree.specs.Loads.{AreToLoad, IsToLoad}
use Rattle.comp_tree.specs.Shape.{IsTree}
use Rattle.comp_tree.specs.declared.loaded.Loaded.{Loaded}
use Rattle.row_tree.specs.TreeRows.{Ascend, place_of}
use Rattle.row_tree.specs.Tree.{list_at}
use Rattle.row_tree.specs.declared.tree_rows.TreeRow.{TreeRow}
use Rattle.comp_tree.specs.Limits.{limit_passed}
use Rattle.comp_tree.specs.Whole.{IsFormed}
use Rattle.app_front.specs.Rows.{IsToldRow}
use Rattle.app_front.specs.declared.rows.FileRow.{FileRow}
use Rattle.app_reader.specs.FormedFile.{IsAppRow, IsOtherRow, tree_row, tree_rows}
use Rattle.app_reader.proofs.RowsById.{all_map, at_each, of_some}
use Rattle.app_reader.specs.Entries.{entries_of, entry_of, id_there, places_of}
use Rattle.app_reader.specs.Ready.{HoldTogether, application_told, components_told, limit_told}
use Rattle.app_reader.specs.declared.ready.FormedRows.{FormedRows}
use Rattle.app_reader.proofs.ClassLemmas.{app_creatable, other_creatable}
use Rattle.app_reader.proofs.EntryLemmas.{loaded_are}
use Rattle.app_reader.proofs.LimitLemmas.{none_at, none_by_rows, none_of_six}

-- ---- ids that ascend are apart

below_apart : (x y : ℕ) → x < y → nat_eq x y ≡ false
below_apart x y lt = grind (arith, nat_tests)

module _ (all : List FileRow) (lists : List (List ℕ)) where
  abbrev ids : List FileRow → List ℕ
  ids rows = map_list (λ (l : Loaded). l.id.0) (map_list (entry_of all lists) rows)

  apart : (x : ℕ) (rows : List FileRow) → ((k : ℕ) (r : FileRow) → slice_get rows k ≡ Some r → x < r.id.0) → AllByRecursion (λ y. nat_eq x y ≡ false) (ids rows)
  apart x [] each = tt
  apart x (r ∷ rows) each = (below_apart x r.id.0 (each 0 r refl), apart x rows (λ k. each (suc k)))

  pub ids_once : (rows : List FileRow) → Ascend (tree_rows rows) → IsDistinct nat_eq (ids rows)
  unfolding IsDistinct
  ids_once [] ascend = tt
  ids_once (r ∷ rows) ascend = (
    apart r.id.0 rows (λ k s at. ascend 0 (suc k) (tree_row r) (tree_row s) (omega arith) refl (slice_get-map tree_row rows k ∙ ap (option_map tree_row) at)),
    ids_once rows (λ i j s t lt at at'. ascend (suc i) (suc j) s t (omega (arith, lt)) at at'),
  )

-- ---- no list is too long

small_id : (n : ℕ) → nat_le most_components n ≡ false → n < 4096
small_id n none = grind (arith, nat_tests)

few_children : (n : ℕ) → nat_lt most_children n ≡ false → n ≤ 200
few_children n none = grind (arith, nat_tests)

few_at : (lists : List (List ℕ)) → ((k : ℕ) (list : List ℕ) → slice_get lists k ≡ Some list → length list ≤ 200) → (o : Option ℕ) → length (option_map_or (list_at lists) o []) ≤ 200
few_at lists each None = omega arith
few_at lists each (Some k) = by_list (slice_get lists k) refl
  where
    by_list : (o : Option (List ℕ)) → slice_get lists k ≡ o → length (option_map_or (λ (list : List ℕ). list) o []) ≤ 200
    by_list None at = omega arith
    by_list (Some list) at = each k list at

-- ---- each entry, and all of them

module _ (m : Meaning) (limit : ℕ) (tables : HasTables m) (rows : FormedRows) (held : HoldTogether m limit rows) (few : limit_told m limit rows ≡ None) where
  creatable : (k : ℕ) (r : FileRow) → slice_get rows.file.rows k ≡ Some r → IsTrue (is_creatable m r.kind.0)
  creatable zero r at =
      let app = of_some (IsAppRow m) (slice_get rows.file.rows 0) r held.formed.app at in
      app_creatable m r.kind.0 tables app.class
  creatable (suc k) r at =
      let other = of_some (IsOtherRow m) (slice_get rows.file.rows (suc k)) r (held.formed.others (suc k) (omega arith)) at in
      other_creatable m r.kind.0 other.component other.concrete

  one_entry : (k : ℕ) (r : FileRow) → slice_get rows.file.rows k ≡ Some r → IsToLoad m (entry_of rows.file.rows rows.lists r)
  one_entry k r at =
      let six = none_of_six _ _ _ _ _ _ (none_by_rows m limit rows few held) in
      let places = places_of rows.file.rows rows.lists r.id.0 in
      let short = few_at rows.lists (λ k list at. few_children (length list) (none_at (λ (list : List ℕ). nat_lt most_children (length list)) rows.lists k list six.3 at)) (place_of (tree_rows rows.file.rows) r.id.0) in
      let same : length (map_list (id_there rows.file.rows) places) ≡ length places = length-map places (id_there rows.file.rows) in
      record {
        id = small_id r.id.0 (none_at (λ (t : TreeRow). nat_le most_components t.id) (tree_rows rows.file.rows) k (tree_row r) six.0 (slice_get-map tree_row rows.file.rows k ∙ ap (option_map tree_row) at));
        creatable = creatable k r at;
        children = omega (arith, same, short);
        config = (at_each (IsToldRow m) rows.file.rows k r held.told at).config;
      }

  module _ (trees : (a : Application) → IsFormed m a → limit_passed m a ≡ None → IsTree (is_live a.components.by_id) (parent_of a.components.by_id) (children_of a.components.by_id)) where
    tree_of_rows : IsTree (is_live (components_told m rows)) (parent_of (components_told m rows)) (children_of (components_told m rows))
    tree_of_rows = trees (application_told m limit rows) held.application few

    pub are_to_load : AreToLoad m (entries_of rows.file.rows rows.lists)
    are_to_load = record {
      each = all_map (entry_of rows.file.rows rows.lists) (IsToLoad m) rows.file.rows one_entry;
      once = ids_once rows.file.rows rows.lists rows.file.rows held.formed.ascend;
      tree = subst (λ (all : ById). IsTree (is_live all) (parent_of all) (children_of all)) (sym (loaded_are m rows.file.rows rows.lists held.formed.ascend)) tree_of_rows;
    }
