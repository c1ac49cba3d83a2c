-- The entries of rows, and the components that they come to.
use Rattle.std.proofs.Common.{◌≡◌, ℕ, suc, ◌+◌, ◌<◌, Bool, true, false, List, [], ◌∷◌, ◌++◌, length, take, get_or, map as map_list, refl, sym, ◌∙◌, ap, arith}
use Rattle.std.specs.Prelude.{Option, Some, None, T, slice_get}
use Rattle.std.specs.Cmp.{nat_cmp_total}
use Rattle.std.specs.FinMap as map
use Rattle.std.specs.FinMap.{is_sorted}
use Rattle.std.specs.Option.{option_map, option_map_or}
use Rattle.std.specs.Ordering.{nat_cmp}
use Rattle.std.proofs.Math.Seq.{take-suc}
use Rattle.std.proofs.lemmas.List.{map-append}
use Rattle.std.proofs.lemmas.Option.{slice_get-get_or, slice_get-map}
use Rattle.sed_value.specs.declared.id.Id.{Id}
use Rattle.sed_engine.specs.Code.{Meaning}
use Rattle.comp_tree.specs.Application.{Component}
use Rattle.comp_tree.specs.declared.loaded.Loaded.{Loaded}
use Rattle.comp_tree.specs.Loads.{loaded, loaded_component}
use Rattle.row_tree.specs.TreeRows.{Ascend, id_at}
use Rattle.row_tree.specs.Tree.{children_in, list_at}
use Rattle.row_tree.specs.declared.tree_rows.TreeRow.{TreeRow}
use Rattle.row_tree.proofs.TreePlaces.{found_place}
use Rattle.app_file.specs.Telling.{told_by, told_component, told_entries}
use Rattle.app_front.specs.Rows.{told_row}
use Rattle.app_front.specs.declared.rows.FileRow.{FileRow}
use Rattle.app_reader.specs.FormedFile.{tree_row, tree_rows}
use Rattle.app_reader.proofs.RowsById.{sorted_of}
use Rattle.app_reader.specs.Entries.{entries_of, entry_of, entry_with, ids_there, places_of}

-- ---- one entry more

module _ (rows : List FileRow) (lists : List (List ℕ)) (k : ℕ) (list : List ℕ) (is : list ≡ get_or lists k list) (lt : k < length lists) where
  pub list_there : list_at lists k ≡ list
  list_there =
      ap (λ (o : Option (List ℕ)). option_map_or (λ (list : List ℕ). list) o []) (slice_get-get_or lists k list lt) ∙ sym is

  -- the places of the children of the row at a place
  pub places_are : Ascend (tree_rows rows) → (r : FileRow) → slice_get rows k ≡ Some r → places_of rows lists r.id.0 ≡ list
  places_are ascend r at =
      ap (λ (o : Option ℕ). option_map_or (list_at lists) o [])
      (found_place (tree_rows rows) r.id.0 k (tree_row r) ascend (slice_get-map tree_row rows k ∙ ap (option_map tree_row) at) refl)
      ∙ list_there

pub row_there : (rows : List FileRow) (k : ℕ) (r : FileRow) → r ≡ get_or rows k r → k < length rows → slice_get rows k ≡ Some r
row_there rows k r is lt = slice_get-get_or rows k r lt ∙ ap (λ (r : FileRow). Some r) (sym is)

pub one_entry_more : (rows : List FileRow) (lists : List (List ℕ)) (k : ℕ) (r : FileRow) (list : List ℕ) (entry : Loaded) → Ascend (tree_rows rows) → length lists ≡ length rows → k < length rows
    → r ≡ get_or rows k r → list ≡ get_or lists k list → entry ≡ entry_with rows r list
    → map_list (entry_of rows lists) (take k rows) ++ entry ∷ [] ≡ map_list (entry_of rows lists) (take (k + 1) rows)
one_entry_more rows lists k r list entry ascend size lt is list_is entry_is =
    let within : k < length lists = omega (arith, size, lt) in
    let places = places_are rows lists k list list_is within ascend r (row_there rows k r is lt) in
    let here : entry ≡ entry_of rows lists r = entry_is ∙ ap (entry_with rows r) (sym places) in
    let front : take (k + 1) rows ≡ take k rows ++ r ∷ [] =
    (let s : k + 1 ≡ suc k = omega arith in ap (λ (n : ℕ). take n rows) s) ∙ take-suc rows k r lt ∙ ap (λ (x : FileRow). take k rows ++ x ∷ []) (sym is) in
    ap (λ (e : Loaded). map_list (entry_of rows lists) (take k rows) ++ e ∷ []) here
    ∙ sym (map-append (entry_of rows lists) (take k rows) (r ∷ []))
    ∙ ap (map_list (entry_of rows lists)) (sym front)

-- ---- the components of all

ids_are : (rows : List FileRow) (places : List ℕ) → map_list (λ (id : Id). id.0) (ids_there rows places) ≡ map_list (id_at (tree_rows rows)) places
ids_are rows [] = refl
ids_are rows (place ∷ places) =
    let here = by_row (slice_get rows place) ∙ ap (λ (o : Option TreeRow). option_map_or (λ (r : TreeRow). r.id) o 0) (sym (slice_get-map tree_row rows place)) in
    let rest = ids_are rows places in
    λ i. here i ∷ rest i
  where
    by_row : (o : Option FileRow) → (option_map_or (λ (r : FileRow). r.id) o (record { 0 = 0 })).0 ≡ option_map_or (λ (r : TreeRow). r.id) (option_map tree_row o) 0
    by_row None = refl
    by_row (Some r) = refl

module _ (m : Meaning) (rows : List FileRow) (lists : List (List ℕ)) where
  abbrev children : ℕ → List ℕ
  children = children_in (tree_rows rows) lists

  component_is : (r : FileRow) → loaded_component m (entry_of rows lists r) ≡ told_component m (told_row r) (children r.id.0)
  component_is r = ap (told_component m (told_row r)) (ids_are rows (places_of rows lists r.id.0))

  pairs_are : (rs : List FileRow) → map_list (λ (l : Loaded). (l.id.0, loaded_component m l)) (map_list (entry_of rows lists) rs) ≡ told_entries m children (map_list told_row rs)
  pairs_are [] = refl
  pairs_are (r ∷ rs) =
      let here = component_is r in
      let rest = pairs_are rs in
      λ i. (r.id.0, here i) ∷ rest i

  is_t : (b : Bool) → b ≡ true → T b
  is_t true is = tt
  is_t false is = absurd (let no : false ≡ true = is in cc)

  -- a map of entries in order, one put after another, is the map of the sorted entries
  sorted_once : (es : List (ℕ × Component)) → T (is_sorted nat_cmp es) → map.from_entries {R = nat_cmp} es ≡ map.from_sorted es
  sorted_once es sorted =
      map.same_map nat_cmp_total map.nat_cmp-IsAntisymmetric (map.from_entries es) (map.from_sorted es)
      (λ q. map.get-from_entries nat_cmp_total es q ∙ sym (map.get-from_sorted nat_cmp es q sorted))

  pub loaded_are : Ascend (tree_rows rows) → loaded m (entries_of rows lists) ≡ told_by m children (map_list told_row rows)
  loaded_are ascend =
      ap (λ (es : List (ℕ × Component)). map.from_entries {R = nat_cmp} es) (pairs_are rows)
      ∙ sorted_once (told_entries m children (map_list told_row rows))
      (is_t (is_sorted nat_cmp (told_entries m children (map_list told_row rows))) (sorted_of m children rows ascend))
