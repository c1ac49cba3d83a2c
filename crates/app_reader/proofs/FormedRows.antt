-- The rows and links of an application that is formed may stand in a file.
use Rattle.std.proofs.Common.{◌≡◌, ℕ, ◌<◌, IsTrue, List, [], ◌∷◌, refl, subst, ap, arith}
use Rattle.std.specs.Prelude.{Option, Some, None, IfSome, All, is_some, slice_get, max, map as map_list}
use Rattle.std.specs.Option.{option_map}
use Rattle.std.specs.List.{AllByRecursion, filter_map, fold}
use Rattle.std.specs.FinMap as map
use Rattle.std.proofs.lemmas.List.Elements.{recursion_from_All}
use Rattle.sed_value.specs.declared.id.Id.{Id}
use Rattle.sed_value.specs.declared.value.Value.{Value}
use Rattle.sed_value.specs.Names.{is_name}
use Rattle.sed_typed.specs.declared.number.TypeNo.{TypeNo}
use Rattle.sed_typed.specs.declared.schema.ClassInfo.{ClassInfo}
use Rattle.sed_engine.specs.Code.{Meaning, slot_type}
use Rattle.sed_engine.specs.Whole.{HasTables}
use Rattle.comp_tree.specs.Application.{Application, Component, Link, children_of}
use Rattle.comp_tree.specs.Parts.{config_slots, no_id}
use Rattle.comp_tree.specs.Whole.{IsFormed, IsLink}
use Rattle.app_file.specs.Rows.{Row, row_of, rows_by, rows_of, sibling_behind}
use Rattle.app_file.specs.Text.{greatest_of}
use Rattle.comp_tree.proofs.EntriesOfMaps.{entries_are_got}
use Rattle.app_file.proofs.FormedRows.{link_fits, row_fits, small_id}
use Rattle.app_file.proofs.ValuesOneWay.{AreTyped}
use Rattle.app_front.specs.Rows.{AreOfTypes, IsToldId, IsToldLink, IsToldRow, number_of_id, told_row}
use Rattle.app_front.specs.declared.rows.FileRow.{FileRow}
use Rattle.app_reader.proofs.Classes.{class_is_told}

-- ---- the row of a file

abbrev pub id_back : ℕ → Id
id_back n = record { 0 = n }

abbrev pub kind_back : ℕ → TypeNo
kind_back n = record { 0 = n }

abbrev pub back : Row → FileRow
back r = record {
  id = id_back r.id;
  kind = kind_back r.class;
  name = r.name;
  parent = option_map id_back r.parent;
  first_child = option_map id_back r.first_child;
  next_sibling = option_map id_back r.next_sibling;
  config = r.config;
}

id_again : (o : Option ℕ) → number_of_id (option_map id_back o) ≡ o
id_again None = refl
id_again (Some n) = refl

told_again : (r : Row) → told_row (back r) ≡ r
told_again r = λ i. record {
  id = r.id;
  class = r.class;
  name = r.name;
  parent = id_again r.parent i;
  first_child = id_again r.first_child i;
  next_sibling = id_again r.next_sibling i;
  config = r.config;
}

pub rows_again : (rows : List Row) → map_list told_row (map_list back rows) ≡ rows
rows_again [] = refl
rows_again (r ∷ rows) =
    let here = told_again r in
    let rest = rows_again rows in
    λ i. here i ∷ rest i

-- ---- options and values

told_id : (o : Option ℕ) → IfSome o (λ n. n < no_id) → IfSome (option_map id_back o) IsToldId
told_id None is = tt
told_id (Some n) is = is

-- values of slots are of the types of these
of_types : (m : Meaning) (class : ℕ) (numbers : List ℕ) (values : List Value) → AreTyped m class numbers values → AreOfTypes (filter_map (slot_type m class) numbers) values
of_types m class [] [] are = tt
of_types m class [] (v ∷ values) are = absurd are
of_types m class (n ∷ numbers) [] are = absurd are
of_types m class (n ∷ numbers) (v ∷ values) are =
    let rest = of_types m class numbers values are.1 in
    rw are.0.is (are.0.of, rest)

-- ---- rows

module _ (m : Meaning) (tables : HasTables m) (numbers : All (λ (c : ClassInfo). c.number < 256) m.schema.classes) (a : Application) (formed : IsFormed m a) where
  row_is_told : (id : ℕ) (c : Component) → map.get a.components.by_id id ≡ Some c → IsToldRow m (back (row_of m (children_of a.components.by_id) id c))
  row_is_told id c got =
      let fits = row_fits m tables a formed id c got in
      record {
        id = fits.id;
        class = class_is_told m c.class fits.class.info tables numbers fits.class.is;
        name = subst (λ r. IfSome r (λ (c : Component). IsTrue (is_name c.name))) got (formed.names id);
        parent = told_id c.parent fits.parent;
        first_child = told_id (slice_get c.children 0) fits.first_child;
        next_sibling = told_id (sibling_behind (children_of a.components.by_id) id c.parent) fits.next_sibling;
        config = of_types m c.class (config_slots m c.class) _ fits.config;
      }

  each_is_told : (es : List (ℕ × Component)) → AllByRecursion (λ e. map.get a.components.by_id e.0 ≡ Some e.1) es
      → AllByRecursion (IsToldRow m) (map_list back (rows_by m (children_of a.components.by_id) es))
  each_is_told [] got = tt
  each_is_told (e ∷ es) got = (row_is_told e.0 e.1 got.0, each_is_told es got.1)

  pub rows_are_told : AllByRecursion (IsToldRow m) (map_list back (rows_of m a.components.by_id))
  rows_are_told = each_is_told (map.entries a.components.by_id) (entries_are_got a.components.by_id)

  -- ---- the greatest id

  max_below : (n : ℕ) (es : List (ℕ × Component)) → n < 65536 → AllByRecursion (λ e. map.get a.components.by_id e.0 ≡ Some e.1) es → fold max n (map_list (λ (e : ℕ × Component). e.0) es) < 65536
  max_below n [] lt got = lt
  max_below n (e ∷ es) lt got =
      let small = small_id m tables a formed e.0 (ap is_some got.0) in
      max_below (max n e.0) es (omega (arith, small, lt)) got.1

  pub greatest_below : greatest_of (map.keys a.components.by_id) < 65536
  greatest_below = max_below 0 (map.entries a.components.by_id) (omega arith) (entries_are_got a.components.by_id)

  -- ---- links

  link_is_told : (l : Link) → IsLink m a.components.by_id l → IsToldLink l
  link_is_told l is =
      let fits = link_fits m tables a formed l is in
      record {
        from = fits.from;
        from_slot = fits.from_slot;
        to = let small = fits.to in omega (arith, small);
        to_slot = fits.to_slot;
      }

  each_link_is_told : (links : List Link) → AllByRecursion (IsLink m a.components.by_id) links → AllByRecursion IsToldLink links
  each_link_is_told [] all = tt
  each_link_is_told (l ∷ links) all = (link_is_told l all.0, each_link_is_told links all.1)

  pub links_are_told : AllByRecursion IsToldLink a.links
  links_are_told = each_link_is_told a.links (recursion_from_All _ a.links formed.links)
