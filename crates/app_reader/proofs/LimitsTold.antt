-- The limits of the application that rows tell.
use Rattle.std.proofs.Common.{◌≡◌, ℕ, suc, Bool, true, List, [], ◌+◌, ◌∷◌, length, refl, sym, ◌∙◌, ap, ap₂, subst, arith}
use Rattle.std.specs.Prelude.{Option, Some, ◌||◌, nat_le, nat_lt, slice_get, sum_by, map as map_list}
use Rattle.std.specs.Option.{option_map, option_map_or}
use Rattle.std.specs.List.{list_any}
use Rattle.std.specs.FinMap as map
use Rattle.std.specs.FinMap.{is_sorted}
use Rattle.std.specs.Ordering.{nat_cmp}
use Rattle.std.proofs.lemmas.List.Sums.{sum_by-cons}
use Rattle.std.proofs.lemmas.Option.{slice_get-map}
use Rattle.sed_typed.specs.Classes.{reached}
use Rattle.sed_engine.specs.Code.{Meaning}
use Rattle.comp_tree.specs.Application.{ById, Component, Link, data_size_of, greatest_depth, most_children, most_components, most_links, most_links_at_component, parent_of}
use Rattle.comp_tree.specs.Order.{depth, most_levels}
use Rattle.comp_tree.specs.Parts.{links_at}
use Rattle.row_tree.specs.TreeRows.{Ascend, id_at, parent_in}
use Rattle.row_tree.specs.Tree.{children_in, list_at}
use Rattle.row_tree.specs.declared.tree_rows.TreeRow.{TreeRow}
use Rattle.comp_tree.specs.Limits.{first_passed, limit_passed, limits_passed}
use Rattle.app_file.specs.Telling.{told_by, told_component, told_entries}
use Rattle.app_front.specs.Rows.{told_row}
use Rattle.app_front.specs.declared.rows.FileRow.{FileRow}
use Rattle.app_reader.specs.FormedFile.{tree_row, tree_rows}
use Rattle.app_reader.specs.Tells.{application_of_rows}
use Rattle.app_reader.proofs.RowsById.{entries_are, keys_are, parent_of_is, sorted_of}
use Rattle.row_tree.proofs.TreePlaces.{found_place}
use Rattle.app_reader.specs.Passed.{data_of_rows, depth_in}

-- ---- by rows

-- each with its number, in the order in which they are told: those of rows, of what they tell of the tree, of the lists
-- of their children and of links, under a data limit
abbrev pub passed_by : Meaning → ℕ → List FileRow → List TreeRow → List (List ℕ) → List Link → List (Bool × ℕ)
passed_by m limit rows tree lists links =
    (list_any (λ (r : TreeRow). nat_le most_components r.id) tree, 1)
    ∷ (nat_lt most_links (length links), 2)
    ∷ (list_any (λ (r : TreeRow). nat_lt greatest_depth (depth_in tree r)) tree, 3)
    ∷ (list_any (λ (list : List ℕ). nat_lt most_children (length list)) lists, 4)
    ∷ (list_any (λ (r : TreeRow). nat_lt most_links_at_component (length (links_at r.id links))) tree, 5)
    ∷ (nat_lt limit (data_of_rows m rows), 6)
    ∷ []

-- ---- lists

any_ids : (p : ℕ → Bool) (rows : List FileRow) → list_any p (map_list (λ (r : FileRow). r.id.0) rows) ≡ list_any (λ (r : TreeRow). p r.id) (tree_rows rows)
any_ids p [] = refl
any_ids p (r ∷ rows) = ap (λ (b : Bool). p r.id.0 || b) (any_ids p rows)

map_same : (xs ys : List ℕ) (f : ℕ → ℕ) → length (map_list f xs) ≡ length xs
map_same [] ys f = refl
map_same (x ∷ xs) ys f = ap suc (map_same xs ys f)

module _ (m : Meaning) (told : List FileRow) (lists : List (List ℕ)) (links : List Link) (limit : ℕ) (ascend : Ascend (tree_rows told)) (sizes : length lists ≡ length told) where
  abbrev children : ℕ → List ℕ
  children = children_in (tree_rows told) lists

  sorted : is_sorted nat_cmp (told_entries m children (map_list told_row told)) ≡ true
  sorted = sorted_of m children told ascend

  abbrev all : ById
  all = told_by m children (map_list told_row told)

  keys : map.keys all ≡ map_list (λ (r : FileRow). r.id.0) told
  keys = ap (map_list (λ (e : ℕ × Component). e.0)) (entries_are m children told sorted) ∙ keys_are m children told

  of_ids : (p : ℕ → Bool) → list_any p (map.keys all) ≡ list_any (λ (r : TreeRow). p r.id) (tree_rows told)
  of_ids p = ap (list_any p) keys ∙ any_ids p told

  parents : ◌≡◌ {A = ℕ → Option ℕ} (parent_of all) (parent_in (tree_rows told))
  parents = λ i id. parent_of_is m children told sorted id i

  deep : list_any (λ id. nat_lt greatest_depth (depth all id)) (map.keys all) ≡ list_any (λ (r : TreeRow). nat_lt greatest_depth (depth_in (tree_rows told) r)) (tree_rows told)
  deep =
      of_ids (λ id. nat_lt greatest_depth (depth all id))
      ∙ ap (λ (parent : ℕ → Option ℕ). list_any (λ (r : TreeRow). nat_lt greatest_depth (length (reached parent most_levels (parent r.id)))) (tree_rows told)) parents

  -- ---- the children

  list_of : (k : ℕ) (r : FileRow) → slice_get told k ≡ Some r → length (children r.id.0) ≡ length (list_at lists k)
  list_of k r at =
      ap (λ (o : Option ℕ). length (map_list (id_at (tree_rows told)) (option_map_or (list_at lists) o [])))
      (found_place (tree_rows told) r.id.0 k (tree_row r) ascend (slice_get-map tree_row told k ∙ ap (option_map tree_row) at) refl)
      ∙ map_same (list_at lists k) [] (id_at (tree_rows told))

  many_by : (rows : List FileRow) (others : List (List ℕ)) → length others ≡ length rows
      → ((k : ℕ) (r : FileRow) → slice_get rows k ≡ Some r → length (children r.id.0) ≡ length (list_at others k))
      → list_any (λ (c : Component). nat_lt most_children (length c.children)) (map_list (λ (e : ℕ × Component). e.1) (told_entries m children (map_list told_row rows)))
      ≡ list_any (λ (list : List ℕ). nat_lt most_children (length list)) others
  many_by [] [] same each = refl
  many_by [] (list ∷ others) same each = absurd (omega (arith, same))
  many_by (r ∷ rows) [] same each = absurd (omega (arith, same))
  many_by (r ∷ rows) (list ∷ others) same each =
      ap₂ (λ (b c : Bool). b || c) (ap (nat_lt most_children) (each 0 r refl)) (many_by rows others (let e : length others ≡ length rows = omega (arith, same) in e) (λ k. each (suc k)))

  many : list_any (λ (c : Component). nat_lt most_children (length c.children)) (map.values all) ≡ list_any (λ (list : List ℕ). nat_lt most_children (length list)) lists
  many =
      ap (λ (es : List (ℕ × Component)). list_any (λ (c : Component). nat_lt most_children (length c.children)) (map_list (λ (e : ℕ × Component). e.1) es)) (entries_are m children told sorted)
      ∙ many_by told lists sizes list_of

  -- ---- the data

  sizes_by : (rows : List FileRow) → sum_by (λ (c : Component). m.data_size c.class) (map_list (λ (e : ℕ × Component). e.1) (told_entries m children (map_list told_row rows))) ≡ data_of_rows m rows
  sizes_by [] = refl
  sizes_by (r ∷ rows) =
      sum_by-cons (λ (c : Component). m.data_size c.class) (told_component m (told_row r) (children r.id.0)) (map_list (λ (e : ℕ × Component). e.1) (told_entries m children (map_list told_row rows)))
      ∙ ap (λ (n : ℕ). m.data_size r.kind.0 + n) (sizes_by rows)
      ∙ sym (sum_by-cons (λ (r : FileRow). m.data_size r.kind.0) r rows)

  sizes_are : data_size_of m all ≡ data_of_rows m told
  sizes_are =
      ap (λ (es : List (ℕ × Component)). sum_by (λ (c : Component). m.data_size c.class) (map_list (λ (e : ℕ × Component). e.1) es)) (entries_are m children told sorted)
      ∙ sizes_by told

  pub limits_are : limits_passed m (application_of_rows m told lists links limit) ≡ passed_by m limit told (tree_rows told) lists links
  limits_are = λ i.
      (of_ids (λ id. nat_le most_components id) i, 1)
      ∷ (nat_lt most_links (length links), 2)
      ∷ (deep i, 3)
      ∷ (many i, 4)
      ∷ (of_ids (λ id. nat_lt most_links_at_component (length (links_at id links))) i, 5)
      ∷ (nat_lt limit (sizes_are i), 6)
      ∷ []

-- what is first by rows is first of the application
pub told_first : (m : Meaning) (rows : List FileRow) (tree : List TreeRow) (lists : List (List ℕ)) (links : List Link) (limit : ℕ) (o : Option ℕ)
    → Ascend tree → o ≡ first_passed (passed_by m limit rows tree lists links)
    → tree ≡ tree_rows rows → length lists ≡ length rows → o ≡ limit_passed m (application_of_rows m rows lists links limit)
told_first m rows tree lists links limit o ascend is same sizes =
    is ∙ ap (λ (t : List TreeRow). first_passed (passed_by m limit rows t lists links)) same
    ∙ sym (ap first_passed (limits_are m rows lists links limit (subst Ascend same ascend) sizes))
