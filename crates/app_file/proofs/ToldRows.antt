-- The components that rows tell of have these rows, and are as a file keeps them.
use Rattle.std.proofs.Common.{◌≡◌, ℕ, Bool, true, false, cond, List, [], ◌∷◌, refl, sym, subst, ◌∙◌, ap}
use Rattle.std.specs.Prelude.{Option, Some, None, T, map as map_list}
use Rattle.std.specs.Option.{option_map_or}
use Rattle.std.specs.List.{AllByRecursion, zip}
use Rattle.std.specs.FinMap as map
use Rattle.std.specs.FinMap.{find}
use Rattle.std.specs.Ordering.{nat_cmp, eq_by_cmp}
use Rattle.std.proofs.lemmas.List.Elements.{recursion_from_All}
use Rattle.sed_value.specs.declared.value.Value.{Value}
use Rattle.sed_engine.specs.Code.{Meaning, new_object, slot_value}
use Rattle.comp_tree.specs.Application.{ById, Component, children_of, object_of}
use Rattle.sed_value.specs.Mapped.{on_values}
use Rattle.comp_tree.specs.Parts.{config_slots, kept_by_id, kept_component, with_slots}
use Rattle.app_file.specs.Rows.{Row, row_of, rows_by, rows_of}
use Rattle.app_file.specs.Telling.{RowAgrees, RowsAgree, told_by, told_component, told_entries}
use Rattle.comp_tree.proofs.EntriesOfMaps.{tied_is}

-- what is read of each, beside it
pub pairs : (f : ℕ → Value) (xs : List ℕ) → ◌≡◌ {A = List (ℕ × Value)} (map_list (λ x. (x, f x)) xs) (zip xs (map_list f xs))
pairs f [] = refl
pairs f (x ∷ xs) = ap (λ (rest : List (ℕ × Value)). (x, f x) ∷ rest) (pairs f xs)

module _ (m : Meaning) (children : ℕ → List ℕ) where
  -- what a file keeps of a component whose slots give what its row gives is the component
  kept_told : (r : Row) → RowAgrees m children r → kept_component m (told_component m r (children r.id)) ≡ told_component m r (children r.id)
  kept_told r agrees =
      let c : Component = told_component m r (children r.id) in
      ap (λ (values : List (ℕ × Value)). let k : Component = record {
        class = r.class;
        name = r.name;
        parent = r.parent;
        children = children r.id;
        contents = (with_slots m values (new_object m r.class)).contents;
        fault = 0;
      } in k) (pairs (slot_value m (object_of c)) (config_slots m r.class) ∙ ap (zip (config_slots m r.class)) agrees.gives)

  kept_entries : (rows : List Row) → AllByRecursion (RowAgrees m children) rows → on_values (kept_component m) (told_entries m children rows) ≡ told_entries m children rows
  kept_entries [] all = refl
  kept_entries (r ∷ rows) all =
      let here = kept_told r all.0 in
      let rest = kept_entries rows all.1 in
      λ i. (r.id, here i) ∷ rest i

  row_told : (r : Row) → RowAgrees m children r → row_of m children r.id (told_component m r (children r.id)) ≡ r
  row_told r agrees = λ i. record {
    id = r.id;
    class = r.class;
    name = r.name;
    parent = r.parent;
    first_child = agrees.first i;
    next_sibling = agrees.next i;
    config = agrees.gives i;
  }

  rows_told : (rows : List Row) → AllByRecursion (RowAgrees m children) rows → rows_by m children (told_entries m children rows) ≡ rows
  rows_told [] all = refl
  rows_told (r ∷ rows) all =
      let here = row_told r all.0 in
      let rest = rows_told rows all.1 in
      λ i. here i ∷ rest i

  children_found : (rows : List Row) (id : ℕ) (c : Component) → find nat_cmp id (told_entries m children rows) ≡ Some c → c.children ≡ children id
  children_found [] id c found = absurd (let no : ◌≡◌ {A = Option Component} None (Some c) = found in cc)
  children_found (r ∷ rows) id c found = by_test (eq_by_cmp nat_cmp id r.id) refl found (children_found rows id c)
    where
      by_test : (b : Bool) → eq_by_cmp nat_cmp id r.id ≡ b → cond b (Some (told_component m r (children r.id))) (find nat_cmp id (told_entries m children rows)) ≡ Some c
          → (find nat_cmp id (told_entries m children rows) ≡ Some c → c.children ≡ children id) → c.children ≡ children id
      by_test true tied found later =
          let same : told_component m r (children r.id) ≡ c = cc in
          ap (λ (c : Component). c.children) (sym same) ∙ ap children (sym (tied_is id r.id tied))
      by_test false tied found later = later found

  module _ (rows : List Row) (agree : RowsAgree m children rows) where
    pub entries_are : map.entries (told_by m children rows) ≡ told_entries m children rows
    entries_are = map.entries-from_sorted nat_cmp (told_entries m children rows) (subst T (sym agree.ascend) tt)

    children_are : (id : ℕ) → children_of (told_by m children rows) id ≡ children id
    children_are id = by_component (map.get (told_by m children rows) id) refl
      where
        by_component : (r : Option Component) → map.get (told_by m children rows) id ≡ r → option_map_or (λ (c : Component). c.children) r [] ≡ children id
        by_component None got = sym (agree.none id got)
        by_component (Some c) got =
            children_found rows id c (ap (find nat_cmp id) (sym entries_are) ∙ sym (map.get-entries (told_by m children rows) id) ∙ got)

    pub rows_are_told : rows_of m (told_by m children rows) ≡ rows
    rows_are_told =
        (λ i. rows_by m (λ id. children_are id i) (entries_are i)) ∙ rows_told rows (recursion_from_All _ rows agree.each)

    pub told_is_kept : kept_by_id m (told_by m children rows) ≡ told_by m children rows
    told_is_kept =
        ap (λ (es : List (ℕ × Component)). let all : ById = map.from_sorted es in all)
        (ap (on_values (kept_component m)) entries_are ∙ kept_entries rows (recursion_from_All _ rows agree.each))
