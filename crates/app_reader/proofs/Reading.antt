-- Rows and links that tell an application hold together.
use Rattle.std.proofs.Common.{◌≡◌, ℕ, ◌<◌, ◌≤◌, Bool, true, false, List, [], refl, sym, subst, ◌∙◌, ap, ap₂}
use Rattle.std.specs.Prelude.{Option, Some, None, IfSome, is_some, slice_get, length, map as map_list}
use Rattle.std.specs.Option.{option_map}
use Rattle.std.specs.List.{IsDistinct}
use Rattle.std.specs.Str.{bytes_eq}
use Rattle.std.specs.FinMap as map
use Rattle.std.specs.FinMap.{is_sorted}
use Rattle.std.specs.Ordering.{nat_cmp}
use Rattle.sed_engine.specs.Code.{Meaning}
use Rattle.comp_tree.specs.Application.{Application, ById, Component, Link, children_of, is_live, name_of, parent_of}
use Rattle.comp_tree.specs.Links.{go_together_if_there}
use Rattle.comp_tree.specs.Whole.{Each, IsApp, IsFormed, IsLink, IsOther}
use Rattle.comp_tree.specs.Shape.{IsRooted}
use Rattle.row_tree.specs.TreeRows.{Ascend, is_row, parent_in}
use Rattle.row_tree.specs.Tree.{IsTreeOf}
use Rattle.row_tree.specs.declared.tree_rows.TreeRow.{TreeRow}
use Rattle.app_file.specs.Reading.{StandsFor}
use Rattle.app_file.specs.Rows.{rows_of, sibling_behind}
use Rattle.app_file.specs.Telling.{RowAgrees, RowsAgree, told_application, told_by, told_component, told_entries}
use Rattle.app_file.specs.Text.{HasShortNames, greatest_of, longest_old_name, old_version}
use Rattle.app_front.specs.Rows.{AreRows, told_row}
use Rattle.app_front.specs.declared.rows.FileRow.{FileRow}
use Rattle.app_front.specs.declared.rows.FileRows.{FileRows}
use Rattle.app_reader.specs.FormedFile.{GivesItsValues, IsAppRow, IsFormedFile, IsLinkIn, IsOtherRow, name_in, row_with, tree_row, tree_rows}
use Rattle.app_reader.specs.Tells.{Tells, rows_told}
use Rattle.app_reader.proofs.RowsById.{all_map, all_of, ascend_of, at_each, at_first, at_map, behind_first, children_of_is, entries_are, got, if_some, keys_are, live_is, live_row, name_of_is, of_some, parent_of_is, row_at, row_of_place, some_is, type_at_is}
use Rattle.app_reader.proofs.Telling.{rows_stand}
use Rattle.sed_value.proofs.Options.{some_and}

module _ (m : Meaning) (f : FileRows) (children : ℕ → List ℕ) (limit : ℕ) (agree : RowsAgree m children (rows_told f)) (formed : IsFormed m (told_application m children (rows_told f) f.links limit)) where
  abbrev all : ById
  all = told_by m children (rows_told f)

  sorted : is_sorted nat_cmp (told_entries m children (rows_told f)) ≡ true
  sorted = agree.ascend

  ascend : Ascend (tree_rows f.rows)
  ascend = ascend_of m children f.rows sorted

  none : (id : ℕ) → is_row (tree_rows f.rows) id ≡ false → children id ≡ []
  none id lacks = by_component (map.get all id) refl (live_is m children f.rows sorted id ∙ lacks)
    where
      by_component : (o : Option Component) → map.get all id ≡ o → is_some (map.get all id) ≡ false → children id ≡ []
      by_component None has dead = agree.none id has
      by_component (Some c) has dead = absurd (let no : true ≡ false = ap is_some (sym has) ∙ dead in cc)

  live_same : ◌≡◌ {A = ℕ → Bool} (is_live all) (is_row (tree_rows f.rows))
  live_same = λ i id. live_is m children f.rows sorted id i

  parent_same : ◌≡◌ {A = ℕ → Option ℕ} (parent_of all) (parent_in (tree_rows f.rows))
  parent_same = λ i id. parent_of_is m children f.rows sorted id i

  children_same : ◌≡◌ {A = ℕ → List ℕ} (children_of all) children
  children_same = λ i id. children_of_is m children f.rows sorted none id i

  names_same : ◌≡◌ {A = ℕ → List ℕ} (name_of all) (name_in f.rows)
  names_same = λ i id. name_of_is m children f.rows sorted id i

  rooted : IsRooted (is_row (tree_rows f.rows)) (parent_in (tree_rows f.rows)) children
  rooted =
      subst (λ (live : ℕ → Bool). IsRooted live (parent_in (tree_rows f.rows)) children) live_same
      (subst (λ (parent : ℕ → Option ℕ). IsRooted (is_live all) parent children) parent_same
      (subst (λ (kids : ℕ → List ℕ). IsRooted (is_live all) (parent_of all) kids) children_same formed.tree))

  agrees : (k : ℕ) (r : FileRow) → slice_get f.rows k ≡ Some r → RowAgrees m children (told_row r)
  agrees k r at = at_map told_row (RowAgrees m children) f.rows k r agree.each at

  tree : IsTreeOf (tree_rows f.rows) children
  tree = record {
    rooted = rooted;
    first = all_map tree_row (λ (r : TreeRow). slice_get (children r.id) 0 ≡ r.first_child) f.rows (λ k r at. (agrees k r at).first);
    next = all_map tree_row (λ (r : TreeRow). sibling_behind children r.id r.parent ≡ r.next_sibling) f.rows (λ k r at. (agrees k r at).next);
    none = none;
  }

  -- what holds of each component holds of the one that a row tells
  has_row : (k : ℕ) (r : FileRow) → slice_get f.rows k ≡ Some r → map.get all r.id.0 ≡ Some (told_component m (told_row r) (children r.id.0))
  has_row k r at = got m children f.rows sorted r.id.0 ∙ ap (option_map (λ (s : FileRow). told_component m (told_row s) (children r.id.0))) (row_of_place f.rows ascend k r at)

  of_each : (P : ℕ → Component → Type 0) → Each all P → (k : ℕ) (r : FileRow) → slice_get f.rows k ≡ Some r → P r.id.0 (told_component m (told_row r) (children r.id.0))
  of_each P holds k r at = of_some (P r.id.0) (map.get all r.id.0) (told_component m (told_row r) (children r.id.0)) (holds r.id.0) (has_row k r at)

  is_app : IfSome (slice_get f.rows 0) (IsAppRow m)
  is_app = if_some (IsAppRow m) (slice_get f.rows 0) first
    where
      first : (r : FileRow) → slice_get f.rows 0 ≡ Some r → IsAppRow m r
      first r at =
          let app = some_and (map.get all 0) formed.app in
          by_row (row_with f.rows 0) refl (sym (got m children f.rows sorted 0) ∙ app.1) app.2
        where
          by_row : {c : Component} (o : Option FileRow) → row_with f.rows 0 ≡ o → option_map (λ (s : FileRow). told_component m (told_row s) (children 0)) o ≡ Some c → IsApp m c → IsAppRow m r
          by_row {c} None found e app = absurd (let no : ◌≡◌ {A = Option Component} None (Some c) = e in cc)
          by_row {c} (Some s) found e app =
              let there = row_at f.rows 0 s found in
              let place = at_first f.rows ascend there.place s there.at there.same in
              let row : s ≡ r = some_is s r (sym there.at ∙ ap (slice_get f.rows) place ∙ at) in
              let same : told_component m (told_row s) (children 0) ≡ c = some_is (told_component m (told_row s) (children 0)) c e in
              subst (IsAppRow m) row
              (record {
                class = app.class ∙ ap (λ (c : Component). Some c.class) (sym same);
                name = ap (λ (c : Component). c.name) same ∙ app.name;
              })

  is_other : (place : ℕ) → 0 < place → IfSome (slice_get f.rows place) (IsOtherRow m)
  is_other place lt = if_some (IsOtherRow m) (slice_get f.rows place) of_row
    where
      of_row : (r : FileRow) → slice_get f.rows place ≡ Some r → IsOtherRow m r
      of_row r at =
          let other = of_each (λ id c. 0 < id → IsOther m c) formed.others place r at (behind_first f.rows ascend place r lt at) in
          record { component = other.component; concrete = other.concrete }

  is_link : (k : ℕ) (l : Link) → slice_get f.links k ≡ Some l → IsLinkIn m f.rows l
  is_link k l at =
      let link = at_each (IsLink m all) f.links k l formed.links at in
      record {
        from = sym (live_row m children f.rows sorted l.from) ∙ link.from;
        to = sym (live_row m children f.rows sorted l.to) ∙ link.to;
        typed = sym (ap₂ go_together_if_there (type_at_is m children f.rows sorted l.from l.from_slot) (type_at_is m children f.rows sorted l.to l.to_slot)) ∙ link.typed;
      }

  siblings : (k : ℕ) (r : FileRow) → slice_get f.rows k ≡ Some r → IsDistinct bytes_eq (map_list (name_in f.rows) (children r.id.0))
  siblings k r at =
      subst (λ (names : ℕ → List ℕ). IsDistinct bytes_eq (map_list names (children r.id.0))) names_same
      (of_each (λ id c. IsDistinct bytes_eq (map_list (name_of all) c.children)) formed.siblings k r at)

  pub is_formed : f.greatest ≡ greatest_of (map.keys all) → (f.version ≡ old_version → HasShortNames all) → IsFormedFile m f children
  is_formed greatest short = record {
    ascend = ascend;
    tree = tree;
    app = is_app;
    others = is_other;
    siblings = all_of (λ (r : FileRow). IsDistinct bytes_eq (map_list (name_in f.rows) (children r.id.0))) f.rows siblings;
    gives = all_of (GivesItsValues m) f.rows (λ k r at. (agrees k r at).gives);
    links = all_of (IsLinkIn m f.rows) f.links is_link;
    order = formed.order;
    greatest = greatest ∙ ap greatest_of (ap (map_list (λ (e : ℕ × Component). e.0)) (entries_are m children f.rows sorted) ∙ keys_are m children f.rows);
    short = λ old. all_of (λ (r : FileRow). length r.name ≤ longest_old_name) f.rows (λ k r at. of_each (λ id c. length c.name ≤ longest_old_name) (short old) k r at);
  }

-- ---- an application that is told

module _ (m : Meaning) (limit : ℕ) (bytes : List ℕ) (f : FileRows) (a : Application) (are : AreRows m bytes f) (tells : Tells m limit f a)
    (agreeing : (a : Application) → StandsFor m limit bytes a → RowsAgree m (children_of a.components.by_id) (rows_of m a.components.by_id))
    (telling : (a : Application) → StandsFor m limit bytes a → told_application m (children_of a.components.by_id) (rows_of m a.components.by_id) a.links limit ≡ a) where
  pub is_told : told_application m (children_of a.components.by_id) (rows_told f) f.links limit ≡ a
  is_told =
      (λ i. told_application m (children_of a.components.by_id) (tells.rows i) (tells.links i) limit)
      ∙ telling a (rows_stand m limit bytes f a are tells)

  pub formed_by : IsFormedFile m f (children_of a.components.by_id)
  formed_by =
      let kids = children_of a.components.by_id in
      let agree = subst (RowsAgree m kids) (sym tells.rows) (agreeing a (rows_stand m limit bytes f a are tells)) in
      let by_id : a.components.by_id ≡ told_by m kids (rows_told f) = ap (λ (a : Application). a.components.by_id) (sym is_told) in
      is_formed m f kids limit agree (subst (IsFormed m) (sym is_told) tells.formed)
      (tells.greatest ∙ ap (λ (all : ById). greatest_of (map.keys all)) by_id)
      (λ old. subst HasShortNames by_id (tells.short old))
