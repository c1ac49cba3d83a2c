-- Rows and links that hold together tell an application.
use Rattle.std.proofs.Common.{◌≡◌, ℕ, zero, suc, ◌<◌, ◌≤◌, Bool, true, false, IsTrue, List, [], refl, sym, subst, ◌∙◌, ap, ap₂, arith}
use Rattle.std.specs.Prelude.{Option, Some, None, IsSomeAnd, is_some, slice_get, length, map as map_list}
use Rattle.std.specs.Option.{option_and_then, option_map}
use Rattle.std.specs.List.{IsDistinct}
use Rattle.std.specs.Str.{bytes_eq}
use Rattle.std.specs.FinMap as map
use Rattle.std.specs.FinMap.{is_sorted}
use Rattle.std.specs.Ordering.{nat_cmp}
use Rattle.sed_value.specs.Names.{is_name}
use Rattle.sed_engine.specs.Code.{Meaning, is_creatable}
use Rattle.sed_engine.specs.Fits.{Fits}
use Rattle.sed_engine.specs.Whole.{IsWhole}
use Rattle.comp_tree.specs.Application.{ById, Component, Link, children_of, is_live, name_of, parent_of}
use Rattle.comp_tree.specs.Links.{go_together_if_there}
use Rattle.comp_tree.specs.Parts.{no_id}
use Rattle.comp_tree.specs.Whole.{Each, IsApp, IsFormed, IsLink, IsOther}
use Rattle.comp_tree.specs.Shape.{IsRooted}
use Rattle.row_tree.specs.TreeRows.{is_row, parent_in}
use Rattle.row_tree.specs.declared.tree_rows.TreeRow.{TreeRow}
use Rattle.app_file.specs.Reading.{StandsFor}
use Rattle.app_file.specs.Rows.{Row, rows_of, sibling_behind}
use Rattle.app_file.specs.Telling.{RowAgrees, RowsAgree, told_application, told_by, told_component, told_entries, told_text}
use Rattle.app_file.specs.Text.{greatest_of, longest_old_name}
use Rattle.app_front.specs.Rows.{AreRows, IsToldRow, number_of_id, told_row}
use Rattle.app_front.specs.declared.rows.FileRow.{FileRow}
use Rattle.app_front.specs.declared.rows.FileRows.{FileRows}
use Rattle.app_reader.specs.FormedFile.{GivesItsValues, IsAppRow, IsFormedFile, IsLinkIn, IsOtherRow, name_in, row_with, tree_row, tree_rows}
use Rattle.app_reader.specs.Tells.{Tells, rows_told}
use Rattle.app_reader.proofs.Objects.{Makes, Stores, app_creatable, other_creatable, told_fits}
use Rattle.app_reader.proofs.RowsById.{IsRowAt, all_map, all_of, at_each, at_first, at_map, children_of_is, entries_are, got, if_some, keys_are, live_is, live_row, name_of_is, of_some, parent_of_is, row_at, some_is, sorted_of, type_at_is}

module _ (m : Meaning) (whole : IsWhole m) (stores : Stores m) (makes : Makes m) (bytes : List ℕ) (f : FileRows) (are : AreRows m bytes f) (children : ℕ → List ℕ) (is : IsFormedFile m f children) where
  sorted : is_sorted nat_cmp (told_entries m children (rows_told f)) ≡ true
  sorted = sorted_of m children f.rows is.ascend

  abbrev all : ById
  all = told_by m children (rows_told f)

  told : (k : ℕ) (r : FileRow) → slice_get f.rows k ≡ Some r → IsToldRow m r
  told k r at = at_each (IsToldRow m) f.rows k r are.rows at

  -- ---- the rows agree with the children

  row_agrees : (k : ℕ) (r : FileRow) → slice_get f.rows k ≡ Some r → RowAgrees m children (told_row r)
  row_agrees k r at = record {
    first = at_map tree_row (λ (r : TreeRow). slice_get (children r.id) 0 ≡ r.first_child) f.rows k r is.tree.first at;
    next = at_map tree_row (λ (r : TreeRow). sibling_behind children r.id r.parent ≡ r.next_sibling) f.rows k r is.tree.next at;
    gives = at_each (GivesItsValues m) f.rows k r is.gives at;
  }

  none_told : (id : ℕ) → map.get all id ≡ None → children id ≡ []
  none_told id none = is.tree.none id (sym (live_is m children f.rows sorted id) ∙ ap is_some none)

  pub agree : RowsAgree m children (rows_told f)
  agree = record { ascend = sorted; each = all_map told_row (RowAgrees m children) f.rows row_agrees; none = none_told }

  -- ---- the application is formed

  live_same : ◌≡◌ {A = ℕ → Bool} (is_row (tree_rows f.rows)) (is_live all)
  live_same = λ i id. sym (live_is m children f.rows sorted id) i

  parent_same : ◌≡◌ {A = ℕ → Option ℕ} (parent_in (tree_rows f.rows)) (parent_of all)
  parent_same = λ i id. sym (parent_of_is m children f.rows sorted id) i

  children_same : ◌≡◌ {A = ℕ → List ℕ} children (children_of all)
  children_same = λ i id. sym (children_of_is m children f.rows sorted is.tree.none id) i

  names_same : ◌≡◌ {A = ℕ → List ℕ} (name_in f.rows) (name_of all)
  names_same = λ i id. sym (name_of_is m children f.rows sorted id) i

  rooted : IsRooted (is_live all) (parent_of all) (children_of all)
  rooted =
      subst (λ (live : ℕ → Bool). IsRooted live (parent_of all) (children_of all)) live_same
      (subst (λ (parent : ℕ → Option ℕ). IsRooted (is_row (tree_rows f.rows)) parent (children_of all)) parent_same
      (subst (λ (kids : ℕ → List ℕ). IsRooted (is_row (tree_rows f.rows)) (parent_in (tree_rows f.rows)) kids) children_same is.tree.rooted))

  -- the component with an id is told by a row
  record IsToldOf (id : ℕ) (c : Component) : Type 0 where
    row : FileRow
    with : row_with f.rows id ≡ Some row
    at : IsRowAt f.rows id row
    same : told_component m (told_row row) (children id) ≡ c

  told_of : (id : ℕ) (c : Component) → map.get all id ≡ Some c → IsToldOf id c
  told_of id c has = by_row (row_with f.rows id) refl (sym (got m children f.rows sorted id) ∙ has)
    where
      by_row : (o : Option FileRow) → row_with f.rows id ≡ o → option_map (λ (r : FileRow). told_component m (told_row r) (children id)) o ≡ Some c → IsToldOf id c
      by_row None found e = absurd (let no : ◌≡◌ {A = Option Component} None (Some c) = e in cc)
      by_row (Some r) found e = record { row = r; with = found; at = row_at f.rows id r found; same = some_is (told_component m (told_row r) (children id)) c e }

  each : (P : ℕ → Component → Type 0) → ((id : ℕ) (r : FileRow) → IsRowAt f.rows id r → P id (told_component m (told_row r) (children id))) → Each all P
  each P holds id = if_some (P id) (map.get all id) (λ c has. let t = told_of id c has in subst (P id) t.same (holds id t.row t.at))

  first_place : (place : ℕ) (r : FileRow) → slice_get f.rows place ≡ Some r → 0 < r.id.0 → (s : FileRow) → slice_get f.rows 0 ≡ Some s → s.id.0 ≡ 0 → 0 < place
  first_place zero r at lt s at' zero_id =
      let row : r ≡ s = some_is r s (sym at ∙ at') in
      let ids : r.id.0 ≡ s.id.0 = ap (λ (r : FileRow). r.id.0) row in
      absurd (omega (arith, ids, lt, zero_id))
  first_place (suc place) r at lt s at' zero_id = omega arith

  -- the first row is the App's
  record IsFirst (r : FileRow) : Type 0 where
    at : slice_get f.rows 0 ≡ Some r
    zero_id : r.id.0 ≡ 0
    with : row_with f.rows 0 ≡ Some r
    root : number_of_id r.parent ≡ None

  first_row : (r : FileRow) × IsFirst r
  first_row = by_live (map.get all 0) refl (rooted.app)
    where
      by_live : (o : Option Component) → map.get all 0 ≡ o → is_some o ≡ true → (r : FileRow) × IsFirst r
      by_live None has live = absurd (let no : false ≡ true = live in cc)
      by_live (Some c) has live =
          let t = told_of 0 c has in
          let place = at_first f.rows is.ascend t.at.place t.row t.at.at t.at.same in (
            t.row,
            record {
              at = ap (slice_get f.rows) (sym place) ∙ t.at.at;
              zero_id = t.at.same;
              with = t.with;
              root = ap (λ (c : Component). c.parent) t.same ∙ sym (ap (λ (o : Option Component). option_and_then (λ (c : Component). c.parent) o) has) ∙ rooted.root;
            },
          )

  others : (id : ℕ) (r : FileRow) → IsRowAt f.rows id r → 0 < id → IsOtherRow m r
  others id r at lt =
      let first = first_row in
      let place = first_place at.place r at.at (let same = at.same in omega (arith, lt, same)) first.0 first.1.at first.1.zero_id in
      of_some (IsOtherRow m) (slice_get f.rows at.place) r (is.others at.place place) at.at

  creatable : (id : ℕ) (r : FileRow) → IsRowAt f.rows id r → (n : ℕ) → id ≡ n → IsTrue (is_creatable m r.kind.0)
  creatable id r at zero tie =
      let first = first_row in
      let kind = of_some (IsAppRow m) (slice_get f.rows 0) first.0 is.app first.1.at in
      let zero_at : row_with f.rows id ≡ row_with f.rows 0 = ap (row_with f.rows) tie in
      let with_row : row_with f.rows id ≡ Some r = ap (option_and_then (slice_get f.rows)) at.found ∙ at.at in
      let row : first.0 ≡ r = some_is first.0 r (sym first.1.with ∙ sym zero_at ∙ with_row) in
      app_creatable m r.kind.0 whole.tables (kind.class ∙ ap (λ (r : FileRow). Some r.kind.0) row)
  creatable id r at (suc n) tie = let other = others id r at (omega (arith, tie)) in other_creatable m r.kind.0 other.component other.concrete

  is_app : IsSomeAnd (map.get all 0) (IsApp m)
  is_app =
      let first = first_row in
      let kind = of_some (IsAppRow m) (slice_get f.rows 0) first.0 is.app first.1.at in
      let has : map.get all 0 ≡ Some (told_component m (told_row first.0) (children 0)) =
      got m children f.rows sorted 0 ∙ ap (option_map (λ (r : FileRow). told_component m (told_row r) (children 0))) first.1.with in
      subst (λ (o : Option Component). IsSomeAnd o (IsApp m)) (sym has) (record { class = kind.class; name = kind.name; parent = first.1.root })

  is_link : (k : ℕ) (l : Link) → slice_get f.links k ≡ Some l → IsLink m all l
  is_link k l at =
      let link = at_each (IsLinkIn m f.rows) f.links k l is.links at in
      record {
        from = live_row m children f.rows sorted l.from ∙ link.from;
        to = live_row m children f.rows sorted l.to ∙ link.to;
        typed = ap₂ go_together_if_there (type_at_is m children f.rows sorted l.from l.from_slot) (type_at_is m children f.rows sorted l.to l.to_slot) ∙ link.typed;
      }

  pub formed : (limit : ℕ) → IsFormed m (told_application m children (rows_told f) f.links limit)
  formed limit = record {
    tree = rooted;
    app = is_app;
    others = each (λ id c. 0 < id → IsOther m c) (λ id r at lt. let other = others id r at lt in record { component = other.component; concrete = other.concrete });
    names = each (λ id c. IsTrue (is_name c.name)) (λ id r at. (told at.place r at.at).name);
    siblings = each (λ id c. IsDistinct bytes_eq (map_list (name_of all) c.children))
        (λ id r at. subst (λ (names : ℕ → List ℕ). IsDistinct bytes_eq (map_list names (children id))) names_same
        (subst (λ (n : ℕ). IsDistinct bytes_eq (map_list (name_in f.rows) (children n))) at.same (at_each (λ (r : FileRow). IsDistinct bytes_eq (map_list (name_in f.rows) (children r.id.0))) f.rows at.place r is.siblings at.at)));
    links = all_of (IsLink m all) f.links is_link;
    order = is.order;
    values = each (λ id c. Fits m.fields (m.fields c.class) (m.initial c.class) c.contents)
        (λ id r at. told_fits m stores makes r.kind.0 r.config (creatable id r at id refl) (told at.place r at.at).config);
    faults = each (λ id c. c.fault ≤ 5) (λ id r at. omega arith);
    statics = whole.tables.first_statics;
    ids = each (λ id c. id < no_id) (λ id r at. let small = (told at.place r at.at).id in let same = at.same in omega (arith, small, same));
  }

  pub tells : ((children : ℕ → List ℕ) (rows : List Row) → RowsAgree m children rows → rows_of m (told_by m children rows) ≡ rows)
      → ((children : ℕ → List ℕ) (rows : List Row) (links : List Link) (limit : ℕ) → RowsAgree m children rows → IsFormed m (told_application m children rows links limit)
      → StandsFor m limit (told_text 4 m rows links) (told_application m children rows links limit))
      → (limit : ℕ) → Tells m limit f (told_application m children (rows_told f) f.links limit)
  tells rows_again stands limit = record {
    formed = formed limit;
    kept = (stands children (rows_told f) f.links limit agree (formed limit)).kept;
    under = refl;
    rows = sym (rows_again children (rows_told f) agree);
    links = refl;
    greatest = is.greatest ∙ ap greatest_of (sym (ap (map_list (λ (e : ℕ × Component). e.0)) (entries_are m children f.rows sorted) ∙ keys_are m children f.rows));
    short = λ old. each (λ id c. length c.name ≤ longest_old_name) (λ id r at. at_each (λ (r : FileRow). length r.name ≤ longest_old_name) f.rows at.place r (is.short old) at.at);
  }
