-- The rows and links of an application that is formed have texts that can be told apart.
use Rattle.std.proofs.Common.{◌≡◌, ℕ, zero, suc, ◌<◌, ◌≤◌, Bool, true, false, IsTrue, List, [], ◌∷◌, length, refl, sym, subst, ◌∙◌, ap, arith}
use Rattle.std.specs.Prelude.{Option, Some, None, IfSome, IsSome, IsSomeAnd, is_some, ◌&&◌, not, slice_get, position, ◌==◌, if◌then◌else◌, nat_lt, ◌^◌}
use Rattle.std.specs.Option.{option_and_then, option_map, option_map_or}
use Rattle.std.specs.List.{AllByRecursion, Contains}
use Rattle.std.specs.FinMap as map
use Rattle.std.proofs.lemmas.List.Quantifiers.{position-Some}
use Rattle.std.proofs.lemmas.List.Elements.{recursion_from_All}
use Rattle.std.proofs.lemmas.Option.{get_or_from_slice_get, slice_get_within, slice_get-get_or}
use Rattle.sed_value.specs.declared.slot_type.SlotType.{SlotType}
use Rattle.sed_typed.specs.declared.schema.ClassInfo.{ClassInfo}
use Rattle.sed_typed.specs.declared.schema.SlotInfo.{SlotInfo}
use Rattle.sed_typed.specs.Classes.{slots}
use Rattle.sed_typed.specs.Schemas.{numbered, type_at as class_numbered}
use Rattle.sed_typed.specs.SysTypes.{app_type, component_type}
use Rattle.sed_value.specs.Names.{is_name}
use Rattle.sed_engine.specs.Code.{Meaning, property_type, slot_form}
use Rattle.sed_engine.specs.Fits.{Fits}
use Rattle.sed_engine.specs.Whole.{HasTables}
use Rattle.comp_tree.specs.Application.{Application, Component, Link, children_of, is_live, parent_of, type_at}
use Rattle.comp_tree.specs.Links.{go_together_if_there}
use Rattle.comp_tree.specs.Parts.{no_id}
use Rattle.comp_tree.specs.Refusals.{is_for_components, is_sys_type}
use Rattle.comp_tree.specs.Whole.{IsApp, IsFormed, IsLink, IsOther}
use Rattle.app_file.specs.Rows.{behind, row_of, rows_by, rows_of, sibling_behind}
use Rattle.comp_tree.proofs.EntriesOfMaps.{entries_are_got}
use Rattle.app_file.proofs.FrontsOfFiles.{name_positive}
use Rattle.app_file.proofs.RowsOneWay.{IsClass, IsIdOrNone, LinkFits, RowFits}
use Rattle.app_file.proofs.SlotValues.{config_is_typed}
use Rattle.sed_value.proofs.Lists.{at_place}

-- ---- lists and options

pub contains_item : (xs : List ℕ) (n x : ℕ) → slice_get xs n ≡ Some x → Contains xs x
contains_item xs n x at = (n, slice_get_within xs n x at, get_or_from_slice_get xs n x x at)

behind_is_there : (id y : ℕ) (xs : List ℕ) → behind id xs ≡ Some y → Contains xs y
behind_is_there id y [] at = absurd (let no : ◌≡◌ {A = Option ℕ} None (Some y) = at in cc)
behind_is_there id y (k ∷ ks) at = by_test (k == id) at (behind_is_there id y ks)
  where
    by_test : (b : Bool) → (if b then slice_get ks 0 else behind id ks) ≡ Some y → (behind id ks ≡ Some y → Contains ks y) → Contains (k ∷ ks) y
    by_test true at later = contains_item (k ∷ ks) 1 y at
    by_test false at later = let there = later at in (suc there.0, let lt = there.1 in omega arith, there.2)

is_some_and : {A : Type 0} {P : A → Type 0} (r : Option A) → IsTrue (is_some r) → IfSome r P → (x : A) × (◌≡◌ {A = Option A} r (Some x)) × P x
is_some_and None some all = absurd (let no : false ≡ true = some in cc)
is_some_and (Some x) some all = (x, refl, all)

-- ---- classes

numbered_is : (n class : ℕ) → numbered n ≡ Some class → n ≡ class
numbered_is n class is = by_test (nat_lt n (2 ^ 16)) is
  where
    by_test : (b : Bool) → (if b then Some n else None) ≡ Some class → n ≡ class
    by_test true at = cc
    by_test false at = absurd (let no : ◌≡◌ {A = Option ℕ} None (Some class) = at in cc)

place_there : (p : ClassInfo → Bool) (xs : List ClassInfo) (n : ℕ) → position p xs ≡ Some n → (x : ClassInfo) × (slice_get xs n ≡ Some x)
place_there p [] n at = absurd (let no : ◌≡◌ {A = Option ℕ} None (Some n) = at in cc)
place_there p (c ∷ cs) n at = (_, slice_get-get_or (c ∷ cs) n c (position-Some p (c ∷ cs) n c at).0)

found_class : (m : Meaning) (kit number class : ℕ) → class_numbered m.schema.classes kit number ≡ Some class → IsClass m class
found_class m kit number class is = by_place (position test m.schema.classes) refl is
  where
    test : ClassInfo → Bool
    test c = (c.kit == kit) && (c.number == number)

    by_place : (r : Option ℕ) → position test m.schema.classes ≡ r → option_and_then numbered r ≡ Some class → IsClass m class
    by_place None at is = absurd (let no : ◌≡◌ {A = Option ℕ} None (Some class) = is in cc)
    by_place (Some n) at is =
        let there = place_there test m.schema.classes n at in
        record { info = there.0; is = ap (slice_get m.schema.classes) (sym (numbered_is n class is)) ∙ there.1 }

component_class : (m : Meaning) (class : ℕ) → IsTrue (is_for_components m class) → IsClass m class
component_class m class is = by_info (slice_get m.schema.classes class) refl is
  where
    by_info : (r : Option ClassInfo) → slice_get m.schema.classes class ≡ r
        → IsTrue (option_map_or (λ (c : ClassInfo). c.is_component) r false && not (is_sys_type m component_type class) && not (is_sys_type m app_type class)) → IsClass m class
    by_info None got is = absurd (let no : false ≡ true = is in cc)
    by_info (Some c) got is = record { info = c; is = got }

-- ---- rows

module _ (m : Meaning) (tables : HasTables m) (a : Application) (formed : IsFormed m a) where
  pub small_id : (id : ℕ) → IsTrue (is_live a.components.by_id id) → id < no_id
  small_id id live = (is_some_and (map.get a.components.by_id id) live (formed.ids id)).2

  parent_by : (id : ℕ) (c : Component) → map.get a.components.by_id id ≡ Some c → parent_of a.components.by_id id ≡ c.parent
  parent_by id c got = ap (λ r. option_and_then (λ (c : Component). c.parent) r) got

  children_by : (id : ℕ) (c : Component) → map.get a.components.by_id id ≡ Some c → children_of a.components.by_id id ≡ c.children
  children_by id c got = ap (λ r. option_map_or (λ (c : Component). c.children) r []) got

  pub child_is_live : (up id : ℕ) → Contains (children_of a.components.by_id up) id → IsTrue (is_live a.components.by_id id)
  child_is_live up id there = formed.tree.known id up (formed.tree.down id up there)

  parent_is_live : (up id : ℕ) → Contains (children_of a.components.by_id up) id → IsTrue (is_live a.components.by_id up)
  parent_is_live up id there = by_parent (map.get a.components.by_id up) there
    where
      by_parent : (r : Option Component) → Contains (option_map_or (λ (c : Component). c.children) r []) id → IsTrue (is_some r)
      by_parent (Some c) there = refl
      by_parent None there = absurd (let lt = there.1 in omega arith)

  fits_parent : (id : ℕ) (parent : Option ℕ) → parent_of a.components.by_id id ≡ parent → IsIdOrNone parent
  fits_parent id None is = tt
  fits_parent id (Some up) is = small_id up (parent_is_live up id (formed.tree.up id up is))

  fits_first : (id : ℕ) (first : Option ℕ) → slice_get (children_of a.components.by_id id) 0 ≡ first → IsIdOrNone first
  fits_first id None is = tt
  fits_first id (Some x) is = small_id x (child_is_live id x (contains_item (children_of a.components.by_id id) 0 x is))

  fits_next : (id : ℕ) (parent next : Option ℕ) → sibling_behind (children_of a.components.by_id) id parent ≡ next → IsIdOrNone next
  fits_next id None None is = tt
  fits_next id None (Some x) is = absurd (let no : ◌≡◌ {A = Option ℕ} None (Some x) = is in cc)
  fits_next id (Some up) None is = tt
  fits_next id (Some up) (Some x) is = small_id x (child_is_live up x (behind_is_there id x (children_of a.components.by_id up) is))

  class_there : (id : ℕ) (c : Component) → map.get a.components.by_id id ≡ Some c → IsClass m c.class
  class_there zero c got =
      let app : IsApp m c = subst (λ r. IsSomeAnd r (IsApp m)) got formed.app in
      found_class m 0 app_type c.class app.class
  class_there (suc n) c got =
      let other : 0 < suc n → IsOther m c = subst (λ r. IfSome r (λ (c : Component). 0 < suc n → IsOther m c)) got (formed.others (suc n)) in
      component_class m c.class (other (omega arith)).component

  pub row_fits : (id : ℕ) (c : Component) → map.get a.components.by_id id ≡ Some c → RowFits m (row_of m (children_of a.components.by_id) id c)
  row_fits id c got = record {
    id = small_id id (ap is_some got);
    class = class_there id c got;
    name = name_positive c.name (subst (λ r. IfSome r (λ (c : Component). IsTrue (is_name c.name))) got (formed.names id));
    parent = fits_parent id c.parent (parent_by id c got);
    first_child = fits_first id (slice_get c.children 0) (ap (λ cs. slice_get cs 0) (children_by id c got));
    next_sibling = fits_next id c.parent _ refl;
    config = config_is_typed m c tables (subst (λ r. IfSome r (λ (c : Component). Fits m.fields (m.fields c.class) (m.initial c.class) c.contents)) got (formed.values id));
  }

  each_row_fits : (es : List (ℕ × Component)) → AllByRecursion (λ e. map.get a.components.by_id e.0 ≡ Some e.1) es
      → AllByRecursion (RowFits m) (rows_by m (children_of a.components.by_id) es)
  each_row_fits [] got = tt
  each_row_fits (e ∷ es) got = (row_fits e.0 e.1 got.0, each_row_fits es got.1)

  pub rows_fit : AllByRecursion (RowFits m) (rows_of m a.components.by_id)
  rows_fit = each_row_fits (map.entries a.components.by_id) (entries_are_got a.components.by_id)

  -- ---- links

  slot_small : (id slot : ℕ) → IsSome (type_at m a.components.by_id id slot) → slot < 256
  slot_small id slot some = by_component (map.get a.components.by_id id) some
    where
      few : (class : ℕ) → length (slots m.schema.classes class) ≤ 64
      few class = by_class (slice_get m.schema.classes class) refl
        where
          by_class : (r : Option ClassInfo) → slice_get m.schema.classes class ≡ r → length (option_map_or (λ (c : ClassInfo). c.slots) r []) ≤ 64
          by_class None at = omega arith
          by_class (Some c) at = at_place (λ (c : ClassInfo). length c.slots ≤ 64) m.schema.classes class c tables.limits.slots at

      by_slot : (class : ℕ) (r : Option SlotInfo) → slice_get (slots m.schema.classes class) slot ≡ r → IsSome (property_type (option_map (λ (s : SlotInfo). s.form) r)) → slot < 256
      by_slot class None at some = absurd (let no : false ≡ true = some in cc)
      by_slot class (Some s) at some =
          let within = slice_get_within (slots m.schema.classes class) slot s at in
          let bound = few class in
          omega (arith, within, bound)

      by_component : (r : Option Component) → IsSome (property_type (option_and_then (λ (c : Component). slot_form m c.class slot) r)) → slot < 256
      by_component None some = absurd (let no : false ≡ true = some in cc)
      by_component (Some c) some = by_slot c.class (slice_get (slots m.schema.classes c.class) slot) refl some

  both_types : (s t : Option SlotType) → IsTrue (go_together_if_there s t) → IsSome s × IsSome t
  both_types (Some s) (Some t) is = (refl, refl)
  both_types None t is = absurd (let no : false ≡ true = is in cc)
  both_types (Some s) None is = absurd (let no : false ≡ true = is in cc)

  pub link_fits : (l : Link) → IsLink m a.components.by_id l → LinkFits l
  link_fits l is =
      let types = both_types (type_at m a.components.by_id l.from l.from_slot) (type_at m a.components.by_id l.to l.to_slot) is.typed in
      record {
        from = small_id l.from is.from;
        from_slot = slot_small l.from l.from_slot types.0;
        to = small_id l.to is.to;
        to_slot = slot_small l.to l.to_slot types.1;
      }

  each_link_fits : (links : List Link) → AllByRecursion (IsLink m a.components.by_id) links → AllByRecursion LinkFits links
  each_link_fits [] all = tt
  each_link_fits (l ∷ links) all = (link_fits l all.0, each_link_fits links all.1)

  pub links_fit : AllByRecursion LinkFits a.links
  links_fit = each_link_fits a.links (recursion_from_All _ a.links formed.links)
