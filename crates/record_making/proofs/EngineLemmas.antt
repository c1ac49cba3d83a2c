-- An engine without live places, to which one object is added and from which it is removed again.
use Rattle.std.proofs.Common.{◌≡◌, ℕ, inl, inr, ◌<◌, true, false, List, [], ◌∷◌, length, refl, sym, ◌∙◌, ap, subst, arith}
use Rattle.std.specs.Prelude.{Option, Some, None, IsTrue, IfSome, map as map_list, sum_by, slice_get, ◌&&◌, not}
use Rattle.std.specs.List.{list_all}
use Rattle.std.specs.Option.{option_map_or}
use Rattle.std.specs.FinMap as map
use Rattle.std.specs.Ordering.{nat_cmp}
use Rattle.std.specs.Cmp.{nat_cmp_total}
use Rattle.std.proofs.lemmas.Bool.{cases_eq}
use Rattle.std.proofs.lemmas.Option.{get_or_from_slice_get, slice_get_within}
use Rattle.sed_typed.specs.declared.schema.ClassInfo.{ClassInfo}
use Rattle.sed_typed.specs.declared.schema.Schema.{Schema}
use Rattle.sed_typed.specs.declared.schema.SlotInfo.{SlotInfo}
use Rattle.sed_typed.specs.Classes.{slots}
use Rattle.sed_engine.specs.Code.{Meaning, Object, Places, data_of, is_creatable, is_property, new_object, slot_value}
use Rattle.sed_engine.specs.Whole.{HasTables}
use Rattle.node_table.specs.Properties.{config_slots}
use Rattle.node_table.specs.Values.{spelling_of_all}
use Rattle.record_making.specs.declared.class.Sort.TheVariants.{Config}
use Rattle.record_making.specs.Slots.{is_of, numbers_that}
use Rattle.record_making.specs.Types.{initial_config}
use Rattle.record_making.proofs.ValueLemmas.{config_are_properties}
use Rattle.sed_value.proofs.Orders.{tied_same, tied_apart, put_at as get_put, put_beside as get_beside}

-- ---- places

-- what is added to none and removed leaves none
pub bare_again : (live : Places) (k : ℕ) (x : Object) → live ≡ map.empty → map.remove (map.insert live k x) k ≡ map.empty
bare_again live k x none = map.same_map nat_cmp_total map.nat_cmp-IsAntisymmetric _ _ (λ q. elim (cases_eq q k) [
  | inl is ↦
      ap (map.get (map.remove (map.insert live k x) k)) is ∙ (map.get-remove nat_cmp_total (map.insert live k x) k k ∙ rw (tied_same k) refl)
      ∙ sym (map.get-empty nat_cmp q)
  | inr ne ↦
      (map.get-remove nat_cmp_total (map.insert live k x) k q ∙ rw (tied_apart q k ne) refl)
      ∙ get_beside live k x q ne ∙ ap (λ (l : Places). map.get l q) none
])

no_entries : {A : Type 0} (es : List (ℕ × A)) → length es ≡ 0 → es ≡ []
no_entries [] e = refl
no_entries (x ∷ es) e = absurd (omega arith)

-- an engine without live places has no data
pub no_data : (m : Meaning) (live : Places) → live ≡ map.empty → data_of m live ≡ 0
no_data m live none =
    let entries : map.entries live ≡ [] = no_entries (map.entries live) (sym (map.len-entries live) ∙ ap map.len none ∙ map.len-empty nat_cmp Object) in
    ap (λ (es : List (ℕ × Object)). sum_by (λ (o : Object). m.data_size o.class) (map_list (λ e. e.1) es)) entries

-- ---- classes

-- a class of which components are made is there
pub class_there : (m : Meaning) (class : ℕ) → IsTrue (is_creatable m class) → (c : ClassInfo) × (slice_get m.schema.classes class ≡ Some c)
class_there m class is = by (slice_get m.schema.classes class) refl is
  where
    by : (r : Option ClassInfo) → slice_get m.schema.classes class ≡ r → option_map_or (λ (c : ClassInfo). c.is_component && not c.is_abstract) r false ≡ true
        → (c : ClassInfo) × (slice_get m.schema.classes class ≡ Some c)
    by (Some c) at is = (c, at)
    by None at is = absurd (let no : false ≡ true = is in cc)

-- it has less than 65,536 bytes of data
pub class_is_small : (m : Meaning) (class : ℕ) → HasTables m → IsTrue (is_creatable m class) → m.data_size class < 65536
class_is_small m class tables is =
    let there = class_there m class is in
    let c = there.0 in
    let at = there.1 in
    let size : m.data_size class ≡ c.size = subst (λ (r : Option ClassInfo). IfSome r (λ (c : ClassInfo). m.data_size class ≡ c.size)) at (tables.sizes class) in
    let most : c.size < 65536 =
    subst (λ (c : ClassInfo). c.size < 65536) (get_or_from_slice_get m.schema.classes class c c at) (tables.limits.sizes class c (slice_get_within m.schema.classes class c at)) in
    omega (arith, size, most)

-- ---- the values of a new object

-- what was just added is there
pub new_at : (m n : Meaning) (before after : Places) (place class : ℕ) → after ≡ map.insert before place (new_object m class) → n ≡ m
    → map.get after place ≡ Some (new_object n class)
new_at m n before after place class added same =
    ap (λ (l : Places). map.get l place) added ∙ get_put before place (new_object m class) ∙ ap (λ (m : Meaning). Some (new_object m class)) (sym same)

-- and is gone again
pub bare_after : (m : Meaning) (before between after : Places) (place class : ℕ) → before ≡ map.empty → between ≡ map.insert before place (new_object m class)
    → after ≡ map.remove between place → after ≡ map.empty
bare_after m before between after place class none added removed =
    removed ∙ ap (λ (l : Places). map.remove l place) added ∙ bare_again before place (new_object m class) none

-- slots that are found in a schema are the config slots of a class
pub slots_are : (m : Meaning) (class : ℕ) (schema : Schema) (all : List SlotInfo) (found lent : List ℕ) → schema ≡ m.schema → all ≡ slots schema.classes class
    → found ≡ numbers_that (is_of Config) all → lent ≡ found → lent ≡ config_slots m class
slots_are m class schema all found lent same of_class are is =
    is ∙ are ∙ ap (numbers_that (is_of Config)) (of_class ∙ ap (λ (s : Schema). slots s.classes class) same)

pub are_properties : (m n : Meaning) (class : ℕ) (lent : List ℕ) → n ≡ m → lent ≡ config_slots m class → IsTrue (list_all (is_property n class) lent)
are_properties m n class lent same are =
    subst (λ (m : Meaning). IsTrue (list_all (is_property m class) lent)) (sym same)
    (subst (λ (all : List ℕ). IsTrue (list_all (is_property m class) all)) (sym are) (config_are_properties m class))

pub config_is : (m n : Meaning) (class : ℕ) (lent bytes : List ℕ) → bytes ≡ spelling_of_all (map_list (slot_value n (new_object n class)) lent) → n ≡ m
    → lent ≡ config_slots m class → bytes ≡ initial_config m class
config_is m n class lent bytes spelled same are =
    spelled ∙ ap (λ (m : Meaning). spelling_of_all (map_list (slot_value m (new_object m class)) lent)) same
    ∙ ap (λ (all : List ℕ). spelling_of_all (map_list (slot_value m (new_object m class)) all)) are
