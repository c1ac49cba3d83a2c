-- What is checked part by part is what has to hold of rows and links.
use Rattle.std.proofs.Common.{◌≡◌, ℕ, suc, ◌<◌, ◌≤◌, Bool, true, false, List, [], ◌∷◌, length, get_or, refl, sym, subst, ◌∙◌, ap, arith}
use Rattle.std.specs.Prelude.{Option, Some, All, IsTrue, ◌↔◌, slice_get, map as map_list}
use Rattle.std.specs.Option.{option_and_then, option_map, option_map_or}
use Rattle.std.specs.List.{Contains, IsDistinct}
use Rattle.std.specs.Str.{bytes_eq}
use Rattle.std.proofs.lemmas.Option.{get_or_from_slice_get, slice_get_within, slice_get-get_or, slice_get-map}
use Rattle.sed_engine.specs.Code.{Meaning}
use Rattle.sub_table.specs.Links.{AreInOrder}
use Rattle.app_file.specs.Text.{greatest_of, longest_old_name, old_version}
use Rattle.row_tree.specs.Reached.{StayWithin}
use Rattle.row_tree.specs.TreeRows.{Ascend, id_at, place_of}
use Rattle.row_tree.specs.Tree.{IsTreeOf, children_in, list_at}
use Rattle.row_tree.specs.declared.tree_rows.TreeRow.{TreeRow}
use Rattle.row_tree.proofs.TreePlaces.{found_place}
use Rattle.app_front.specs.declared.rows.FileRow.{FileRow}
use Rattle.app_front.specs.declared.rows.FileRows.{FileRows}
use Rattle.app_reader.specs.FormedFile.{GivesItsValues, IsFormedFile, IsLinkIn, name_in, tree_row, tree_rows}
use Rattle.app_reader.specs.Checks.{AreKinds, SiblingsDiffer, name_at}
use Rattle.sed_value.proofs.Lists.{item_there as some_item, at_place as at_each}

-- what is checked of a file once its rows are a tree
pub record IsChecked (m : Meaning) (f : FileRows) (lists : List (List ℕ)) : Type 0 where
  pub kinds : AreKinds m f.rows
  pub siblings : SiblingsDiffer f.rows lists
  pub links : All (IsLinkIn m f.rows) f.links
  pub order : AreInOrder f.links
  pub greatest : f.greatest ≡ greatest_of (map_list (λ (r : FileRow). r.id.0) f.rows)
  pub short : f.version ≡ old_version → All (λ (r : FileRow). length r.name ≤ longest_old_name) f.rows

contains_at : (xs : List ℕ) (n x : ℕ) → slice_get xs n ≡ Some x → Contains xs x
contains_at xs n x at = (n, slice_get_within xs n x at, get_or_from_slice_get xs n x x at)

module _ (f : FileRows) (lists : List (List ℕ)) (ascend : Ascend (tree_rows f.rows)) (sizes : length lists ≡ length f.rows) (within : StayWithin lists) where
  tree_at : (k : ℕ) (r : FileRow) → slice_get f.rows k ≡ Some r → slice_get (tree_rows f.rows) k ≡ Some (tree_row r)
  tree_at k r at = slice_get-map tree_row f.rows k ∙ ap (option_map tree_row) at

  found : (k : ℕ) (r : FileRow) → slice_get f.rows k ≡ Some r → place_of (tree_rows f.rows) r.id.0 ≡ Some k
  found k r at = found_place (tree_rows f.rows) r.id.0 k (tree_row r) ascend (tree_at k r at) refl

  -- the name of the row at a place
  same_name : (p : ℕ) → p < length f.rows → name_in f.rows (id_at (tree_rows f.rows) p) ≡ name_at f.rows p
  same_name p lt =
      let row = some_item f.rows p lt in
      let id : id_at (tree_rows f.rows) p ≡ row.0.id.0 = ap (λ (o : Option TreeRow). option_map_or (λ (r : TreeRow). r.id) o 0) (tree_at p row.0 row.1) in
      ap (name_in f.rows) id
      ∙ ap (λ (o : Option ℕ). option_map_or (λ (r : FileRow). r.name) (option_and_then (slice_get f.rows) o) []) (found p row.0 row.1)

  same_names : (ps : List ℕ) → ((n p : ℕ) → slice_get ps n ≡ Some p → p < length f.rows) → map_list (name_in f.rows) (map_list (id_at (tree_rows f.rows)) ps) ≡ map_list (name_at f.rows) ps
  same_names [] each = refl
  same_names (p ∷ ps) each =
      let here = same_name p (each 0 p refl) in
      let rest = same_names ps (λ n. each (suc n)) in
      λ i. here i ∷ rest i

  -- the names of a row's children
  names_of : (k : ℕ) (r : FileRow) (list : List ℕ) → slice_get f.rows k ≡ Some r → slice_get lists k ≡ Some list
      → map_list (name_in f.rows) (children_in (tree_rows f.rows) lists r.id.0) ≡ map_list (name_at f.rows) list
  names_of k r list at is =
      let there : list_at lists k ≡ list = ap (λ (o : Option (List ℕ)). option_map_or (λ list. list) o []) is in
      ap (λ (o : Option ℕ). map_list (name_in f.rows) (map_list (id_at (tree_rows f.rows)) (option_map_or (list_at lists) o []))) (found k r at)
      ∙ ap (λ (ps : List ℕ). map_list (name_in f.rows) (map_list (id_at (tree_rows f.rows)) ps)) there
      ∙ same_names list (λ n p item. let lt = within k p (subst (λ (ps : List ℕ). Contains ps p) (sym there) (contains_at list n p item)) in omega (arith, lt, sizes))

  siblings_of : SiblingsDiffer f.rows lists → All (λ (r : FileRow). IsDistinct bytes_eq (map_list (name_in f.rows) (children_in (tree_rows f.rows) lists r.id.0))) f.rows
  siblings_of differ = λ k d lt.
      let r = get_or f.rows k d in
      let at = slice_get-get_or f.rows k d lt in
      let list = some_item lists k (omega (arith, lt, sizes)) in
      subst (IsDistinct bytes_eq) (sym (names_of k r list.0 at list.1)) (differ k list.0 list.1)

  of_siblings : All (λ (r : FileRow). IsDistinct bytes_eq (map_list (name_in f.rows) (children_in (tree_rows f.rows) lists r.id.0))) f.rows → SiblingsDiffer f.rows lists
  of_siblings all = λ k list is.
      let lt = slice_get_within lists k list is in
      let row = some_item f.rows k (omega (arith, lt, sizes)) in
      subst (IsDistinct bytes_eq) (names_of k row.0 list row.1 is)
      (at_each (λ (r : FileRow). IsDistinct bytes_eq (map_list (name_in f.rows) (children_in (tree_rows f.rows) lists r.id.0))) f.rows k row.0 all row.1)

  together : (m : Meaning) → IsTreeOf (tree_rows f.rows) (children_in (tree_rows f.rows) lists) → IsChecked m f lists → All (GivesItsValues m) f.rows
      → IsFormedFile m f (children_in (tree_rows f.rows) lists)
  together m tree checked gives = record {
    ascend = ascend;
    tree = tree;
    app = checked.kinds.app;
    others = checked.kinds.others;
    siblings = siblings_of checked.siblings;
    gives = gives;
    links = checked.links;
    order = checked.order;
    greatest = checked.greatest;
    short = checked.short;
  }

  checked_of : (m : Meaning) → IsFormedFile m f (children_in (tree_rows f.rows) lists) → IsChecked m f lists
  checked_of m is = record {
    kinds = record { app = is.app; others = is.others };
    siblings = of_siblings is.siblings;
    links = is.links;
    order = is.order;
    greatest = is.greatest;
    short = is.short;
  }

  -- with the values of the rows, what is checked is all that has to hold
  pub formed_if : (m : Meaning) (b : Bool) → IsTreeOf (tree_rows f.rows) (children_in (tree_rows f.rows) lists) → All (GivesItsValues m) f.rows → (IsTrue b ↔ IsChecked m f lists)
      → (IsTrue b ↔ IsFormedFile m f (children_in (tree_rows f.rows) lists))
  formed_if m b tree gives both = (λ yes. together m tree (both.0 yes) gives, λ is. both.1 (checked_of m is))

-- where a part is refuted, the whole is
pub refuted : (P C : Type 0) (b : Bool) → (IsTrue b → P) × (P → IsTrue b) → b ≡ false → (C → P) → (IsTrue false → C) × (C → IsTrue false)
refuted P C b both is part = (λ never. absurd (let no : false ≡ true = never in cc), λ whole. sym is ∙ both.1 (part whole))
