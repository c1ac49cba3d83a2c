-- Values of a row, stored in a new object of its class, fit.
use Rattle.std.proofs.Common.{◌≡◌, ℕ, suc, ◌+◌, Bool, true, false, IsTrue, List, [], ◌∷◌, refl, sym, subst, ◌∙◌, ap, arith}
use Rattle.std.specs.Prelude.{Option, Some, None, not, ◌&&◌, ◌||◌, if◌then◌else◌, map as map_list, filter, slice_get}
use Rattle.std.specs.Option.{option_map, option_map_or}
use Rattle.std.specs.List.{AllByRecursion, enumerate_from, filter_map, zip}
use Rattle.sed_value.specs.Value.{goes_to, is_of_type, reads_as_int}
use Rattle.sed_value.specs.declared.slot_type.Primitive.TheVariants.{Bool as BoolType, Byte as ByteType, Short as ShortType, Int as IntType, Long as LongType}
use Rattle.sed_value.specs.declared.slot_type.SlotType.{SlotType}
use Rattle.sed_value.specs.declared.slot_type.SlotType.TheVariants.{Prim, Buf}
use Rattle.sed_value.specs.declared.value.Value.{Value}
use Rattle.sed_typed.specs.declared.schema.ClassInfo.{ClassInfo}
use Rattle.sed_typed.specs.declared.schema.SlotForm.{SlotForm}
use Rattle.sed_typed.specs.declared.schema.SlotForm.TheVariants.{Prop, Action}
use Rattle.sed_typed.specs.declared.schema.SlotInfo.{SlotInfo}
use Rattle.sed_typed.specs.Classes.{slots}
use Rattle.sed_typed.specs.Schemas.{type_at as class_numbered}
use Rattle.sed_typed.specs.SysTypes.{app_type, component_type}
use Rattle.sed_engine.specs.Code.{Meaning, Object, is_creatable, may_store, new_object, property_type, slot_type, with_slot}
use Rattle.sed_engine.specs.Fits.{Fits}
use Rattle.sed_engine.specs.Whole.{HasTables, IsObject}
use Rattle.node_table.specs.Properties.{is_config, is_property_form}
use Rattle.comp_tree.specs.Parts.{config_slots, with_slots}
use Rattle.comp_tree.specs.Refusals.{is_abstract_class, is_for_components, is_sys_type}
use Rattle.app_front.specs.Rows.{AreOfTypes}
use Rattle.sed_value.proofs.Options.{some_and}

-- ---- a value of a type goes to it

left_or : (a b : Bool) → IsTrue a → IsTrue (a || b)
left_or true b h = refl
left_or false b h = absurd (let no : false ≡ true = h in cc)

right_or : (a b : Bool) → IsTrue b → IsTrue (a || b)
right_or true b h = refl
right_or false b h = h

goes_home : (t : SlotType) (v : Value) → IsTrue (is_of_type t v) → IsTrue (goes_to t v)
goes_home (Prim BoolType) v is = is
goes_home (Prim ByteType) v is = left_or (is_of_type (Prim ByteType) v || is_of_type (Prim ShortType) v) (is_of_type (Prim IntType) v) (left_or (is_of_type (Prim ByteType) v) (is_of_type (Prim ShortType) v) is)
goes_home (Prim ShortType) v is = left_or (is_of_type (Prim ByteType) v || is_of_type (Prim ShortType) v) (is_of_type (Prim IntType) v) (right_or (is_of_type (Prim ByteType) v) (is_of_type (Prim ShortType) v) is)
goes_home (Prim IntType) v is = right_or (is_of_type (Prim ByteType) v || is_of_type (Prim ShortType) v) (is_of_type (Prim IntType) v) is
goes_home (Prim LongType) v is = right_or (reads_as_int v) (is_of_type (Prim LongType) v) is
goes_home (Buf most) v is = is

-- ---- config slots are properties

pub record IsProperty (m : Meaning) (class slot : ℕ) : Type 0 where
  pub type : SlotType
  pub is : slot_type m class slot ≡ Some type

by_form : (m : Meaning) (class slot : ℕ) (s : SlotInfo) → slice_get (slots m.schema.classes class) slot ≡ Some s → (form : SlotForm) (config : Bool) → s.form ≡ form
    → IsTrue (is_property_form form && config) → IsProperty m class slot
by_form m class slot s at (Prop t) config same is = record {
  type = t;
  is = ap (λ r. property_type (option_map (λ (s : SlotInfo). s.form) r)) at ∙ ap (λ f. property_type (Some f)) same;
}
by_form m class slot s at (Action a) config same is = absurd (let no : false ≡ true = is in cc)

are_properties : (m : Meaning) (class k : ℕ) (rest : List SlotInfo) → ((j : ℕ) → slice_get rest j ≡ slice_get (slots m.schema.classes class) (k + j))
    → AllByRecursion (IsProperty m class) (map_list (λ (e : ℕ × SlotInfo). e.0) (filter (λ (e : ℕ × SlotInfo). is_config e.1) (enumerate_from k rest)))
are_properties m class k [] suffix = tt
are_properties m class k (s ∷ rest) suffix = by_test (is_config s) refl (are_properties m class (k + 1) rest (λ j. suffix (suc j) ∙ ap (slice_get (slots m.schema.classes class)) (let e : k + suc j ≡ (k + 1) + j = omega arith in e)))
  where
    here : slice_get (slots m.schema.classes class) k ≡ Some s
    here = ap (slice_get (slots m.schema.classes class)) (let e : k ≡ k + 0 = omega arith in e) ∙ sym (suffix 0)

    by_test : (b : Bool) → is_config s ≡ b → AllByRecursion (IsProperty m class) (map_list (λ (e : ℕ × SlotInfo). e.0) (filter (λ (e : ℕ × SlotInfo). is_config e.1) (enumerate_from (k + 1) rest)))
        → AllByRecursion (IsProperty m class) (map_list (λ (e : ℕ × SlotInfo). e.0) (if b then (k, s) ∷ filter (λ (e : ℕ × SlotInfo). is_config e.1) (enumerate_from (k + 1) rest) else filter (λ (e : ℕ × SlotInfo). is_config e.1) (enumerate_from (k + 1) rest)))
    by_test true is later = (by_form m class k s here s.form s.config refl is, later)
    by_test false is later = later

pub config_are : (m : Meaning) (class : ℕ) → AllByRecursion (IsProperty m class) (config_slots m class)
config_are m class = are_properties m class 0 (slots m.schema.classes class) (λ j. ap (slice_get (slots m.schema.classes class)) (let e : j ≡ 0 + j = omega arith in e))

-- ---- several values

each_may : (m : Meaning) (class : ℕ) (numbers : List ℕ) (values : List Value) → AllByRecursion (IsProperty m class) numbers → AreOfTypes (filter_map (slot_type m class) numbers) values
    → AllByRecursion (λ (e : ℕ × Value). IsTrue (may_store m class e.0 e.1)) (zip numbers values)
each_may m class [] values all are = tt
each_may m class (n ∷ numbers) [] all are = tt
each_may m class (n ∷ numbers) (v ∷ values) all are =
    let typed : AreOfTypes (all.0.type ∷ filter_map (slot_type m class) numbers) (v ∷ values) = rw all.0.is at are in
    (ap (λ r. option_map_or (λ t. goes_to t v) r false) all.0.is ∙ goes_home all.0.type v typed.0, each_may m class numbers values all.1 typed.1)

class_stays : (m : Meaning) (values : List (ℕ × Value)) (o : Object) → (with_slots m values o).class ≡ o.class
class_stays m [] o = refl
class_stays m (e ∷ values) o = class_stays m values (with_slot m o e.0 e.1)

abbrev pub Stores : Meaning → Type 0
Stores m = (o : Object) (slot : ℕ) (v : Value) → IsObject m o → IsTrue (may_store m o.class slot v) → IsObject m (with_slot m o slot v)

abbrev pub Makes : Meaning → Type 0
Makes m = (class : ℕ) → IsTrue (is_creatable m class) → IsObject m (new_object m class)

slots_fit : (m : Meaning) → Stores m → (values : List (ℕ × Value)) (o : Object) → IsObject m o → AllByRecursion (λ (e : ℕ × Value). IsTrue (may_store m o.class e.0 e.1)) values → IsObject m (with_slots m values o)
slots_fit m stores [] o is may = is
slots_fit m stores (e ∷ values) o is may = slots_fit m stores values (with_slot m o e.0 e.1) (stores o e.0 e.1 is may.0) may.1

pub told_fits : (m : Meaning) → Stores m → Makes m → (class : ℕ) (values : List Value) → IsTrue (is_creatable m class) → AreOfTypes (filter_map (slot_type m class) (config_slots m class)) values
    → Fits m.fields (m.fields class) (m.initial class) (with_slots m (zip (config_slots m class) values) (new_object m class)).contents
told_fits m stores makes class values creatable are =
    let all = zip (config_slots m class) values in
    let o = slots_fit m stores all (new_object m class) (makes class creatable) (each_may m class (config_slots m class) values (config_are m class) are) in
    subst (λ k. Fits m.fields (m.fields k) (m.initial k) (with_slots m all (new_object m class)).contents) (class_stays m all (new_object m class)) o.fits

-- ---- classes of which components are made

pub app_creatable : (m : Meaning) (class : ℕ) → HasTables m → class_numbered m.schema.classes 0 app_type ≡ Some class → IsTrue (is_creatable m class)
app_creatable m class tables is =
    let app = some_and (class_numbered m.schema.classes 0 app_type) tables.names.types.app in
    let both : ◌≡◌ {A = Option ℕ} (Some app.0) (Some class) = sym app.1 ∙ is in
    let same : app.0 ≡ class = cc in
    let info = some_and (slice_get m.schema.classes app.0) app.2 in
    ap (λ (n : ℕ). is_creatable m n) (sym same)
    ∙ ap (λ (o : Option ClassInfo). option_map_or (λ c. c.is_component && not c.is_abstract) o false) info.1
    ∙ (rw (info.2.is_component, info.2.is_abstract) refl)

pub other_creatable : (m : Meaning) (class : ℕ) → IsTrue (is_for_components m class) → IsTrue (not (is_abstract_class m class)) → IsTrue (is_creatable m class)
other_creatable m class component concrete = by_info (slice_get m.schema.classes class) component concrete
  where
    parts : (a b c : Bool) → IsTrue (a && b && c) → IsTrue a
    parts true b c is = refl
    parts false true c is = absurd (let no : false ≡ true = is in cc)
    parts false false c is = absurd (let no : false ≡ true = is in cc)

    together : (a b : Bool) → IsTrue a → IsTrue b → IsTrue (a && b)
    together true b is rest = rest
    together false b is rest = absurd (let no : false ≡ true = is in cc)

    by_info : (r : Option ClassInfo)
        → IsTrue (option_map_or (λ (c : ClassInfo). c.is_component) r false && not (is_sys_type m component_type class) && not (is_sys_type m app_type class))
        → IsTrue (not (option_map_or (λ (c : ClassInfo). c.is_abstract) r false)) → IsTrue (option_map_or (λ c. c.is_component && not c.is_abstract) r false)
    by_info None is not_abstract = absurd (let no : false ≡ true = is in cc)
    by_info (Some c) is not_abstract =
        together c.is_component (not c.is_abstract) (parts c.is_component (not (is_sys_type m component_type class)) (not (is_sys_type m app_type class)) is) not_abstract
