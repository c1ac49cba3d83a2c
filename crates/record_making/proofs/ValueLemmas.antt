-- The values that config properties begin with: each is of its type, and together they take at most 400 bytes.
use Rattle.std.proofs.Common.{◌≡◌, ℕ, suc, ◌+◌, ◌≤◌, ◌<◌, Bool, true, false, List, [], ◌∷◌, length, map, filter, refl, sym, ◌∙◌, ap, subst, arith, length-append}
use Rattle.std.specs.Prelude.{Option, Some, None, IsTrue, IfSome, IsSome, IsSomeAnd, sum_by, slice_get, ◌&&◌, if◌then◌else◌}
use Rattle.std.specs.List.{list_all, enumerate_from}
use Rattle.std.specs.Option.{option_map, option_map_or}
use Rattle.std.proofs.lemmas.List.Sums.{sum_by-cons}
use Rattle.std.proofs.lemmas.Option.{get_or_from_slice_get, slice_get_within}
use Rattle.sed_value.specs.Value.{is_of_type}
use Rattle.sed_value.specs.declared.slot_type.SlotType.{SlotType}
use Rattle.sed_value.specs.declared.slot_type.SlotType.TheVariants.{Prim as PrimSlot, Buf as BufSlot}
use Rattle.sed_value.specs.declared.value.Value.{Value}
use Rattle.sed_value.specs.declared.value.Value.TheVariants.{Nothing}
use Rattle.sed_typed.specs.declared.schema.ClassInfo.{ClassInfo}
use Rattle.sed_typed.specs.declared.schema.SlotForm.{SlotForm}
use Rattle.sed_typed.specs.declared.schema.SlotForm.TheVariants.{Prop, Action}
use Rattle.sed_typed.specs.declared.schema.SlotInfo.{SlotInfo}
use Rattle.sed_typed.specs.Classes.{slots}
use Rattle.sed_typed.specs.Contents.{value_at}
use Rattle.sed_typed.specs.Sizes.{config_size, value_size}
use Rattle.sed_engine.specs.Code.{Meaning, is_property, new_object, property_type, slot_path, slot_type, slot_value}
use Rattle.sed_engine.specs.Fits.{form_at, form_of, is_kept, keeps}
use Rattle.sed_engine.specs.Whole.{HasTables, field_form}
use Rattle.node_table.specs.Properties.{config_slots, is_config, is_property_form}
use Rattle.node_table.specs.Values.{spelling_of, spelling_of_all}
use Rattle.node_table.proofs.StoredLemmas.{kept_at}
use Rattle.record_making.specs.Types.{initial_config}
use Rattle.record_making.proofs.SlotLemmas.{numbers_from}
use Rattle.app_parts.proofs.ValueLemmas.{spelling-size}
pub use Rattle.sed_value.proofs.Options.{some_and}

-- ---- one value

is_there : {A : Type 0} (o : Option A) → IsSome o → (x : A) × (◌≡◌ {A = Option A} o (Some x))
is_there None h = absurd (let no : false ≡ true = h in cc)
is_there (Some x) h = (x, refl)

-- what a property begins with is of its type
module _ (m : Meaning) (class slot : ℕ) (t : SlotType) (tables : HasTables m) (within : class < length m.schema.classes) (is : slot_type m class slot ≡ Some t) where
  field : (i : ℕ) × (m.slot_field class slot ≡ Some i) × (form_at (m.fields class) i ≡ Some (field_form t))
  field = some_and (m.slot_field class slot) (subst (λ (s : Option SlotType). IfSome s (λ t. IsSomeAnd (m.slot_field class slot) (λ i. form_at (m.fields class) i ≡ Some (field_form t)))) is (tables.slot_fields class slot))

  path_is : slot_path m class slot ≡ field.0 ∷ []
  path_is = ap (λ s. option_map_or (λ i. i ∷ []) s []) field.1

  value : (v : Value) × (value_at (m.initial class) (slot_path m class slot) ≡ Some v)
  value =
      is_there (value_at (m.initial class) (slot_path m class slot))
      (subst (λ (s : Option SlotType). IfSome s (λ t. IsSome (value_at (m.initial class) (slot_path m class slot)))) is (tables.values class slot))

  of_form : (t : SlotType) (v : Value) → IsTrue (keeps (field_form t) v) → IsTrue (is_of_type t v)
  of_form (PrimSlot p) v h = h
  of_form (BufSlot n) v h = h

  form_is : form_of m.fields (m.fields class) (slot_path m class slot) ≡ Some (field_form t)
  form_is = ap (form_of m.fields (m.fields class)) path_is ∙ rw (field.2) refl

  first_is_of_type : IsTrue (is_of_type t (slot_value m (new_object m class) slot))
  first_is_of_type =
      subst (λ v. IsTrue (is_of_type t v)) (sym (ap (λ s. option_map_or (λ v. v) s Nothing) value.1))
      (of_form t value.0
      (subst (λ f. IsTrue (is_kept f value.0)) form_is
      (kept_at (form_of m.fields (m.fields class)) (m.initial class) (slot_path m class slot) value.0 (tables.first class within).values value.1)))

-- ---- the config slots of a class

-- a list that goes on from a place in the slots of a class
abbrev GoesOn : Meaning → ℕ → ℕ → List SlotInfo → Type 0
GoesOn m class k rest = (j : ℕ) → slice_get rest j ≡ slice_get (slots m.schema.classes class) (k + j)

here : (m : Meaning) (class k : ℕ) (s : SlotInfo) (rest : List SlotInfo) → GoesOn m class k (s ∷ rest) → slice_get (slots m.schema.classes class) k ≡ Some s
here m class k s rest on =
    ap (slice_get (slots m.schema.classes class)) (let e : k ≡ k + 0 = omega arith in e) ∙ sym (on 0)

behind : (m : Meaning) (class k : ℕ) (s : SlotInfo) (rest : List SlotInfo) → GoesOn m class k (s ∷ rest) → GoesOn m class (k + 1) rest
behind m class k s rest on = λ j. on (suc j) ∙ ap (slice_get (slots m.schema.classes class)) (let e : k + suc j ≡ (k + 1) + j = omega arith in e)

type_here : (m : Meaning) (class k : ℕ) (s : SlotInfo) (t : SlotType) → slice_get (slots m.schema.classes class) k ≡ Some s → s.form ≡ Prop t → slot_type m class k ≡ Some t
type_here m class k s t at same =
    ap (λ r. property_type (option_map (λ (s : SlotInfo). s.form) r)) at ∙ ap (λ f. property_type (Some f)) same

abbrev number_and : ℕ → SlotInfo → Bool → List SlotInfo → List ℕ
number_and k s b rest =
    map (λ (e : ℕ × SlotInfo). e.0) (if b then (k, s) ∷ filter (λ (e : ℕ × SlotInfo). is_config e.1) (enumerate_from (k + 1) rest) else filter (λ (e : ℕ × SlotInfo). is_config e.1) (enumerate_from (k + 1) rest))

from_here : (m : Meaning) (class k : ℕ) (rest : List SlotInfo) → GoesOn m class k rest → IsTrue (list_all (is_property m class) (numbers_from is_config k rest))
from_here m class k [] on = refl
from_here m class k (s ∷ rest) on = by s.form s.config refl (from_here m class (k + 1) rest (behind m class k s rest on))
  where
    by : (form : SlotForm) (config : Bool) → s.form ≡ form → IsTrue (list_all (is_property m class) (numbers_from is_config (k + 1) rest))
        → IsTrue (list_all (is_property m class) (number_and k s (is_property_form form && config) rest))
    by (Prop t) true same later =
        ap (λ (x : Option SlotType). option_map_or (λ _. true) x false && list_all (is_property m class) (numbers_from is_config (k + 1) rest))
        (type_here m class k s t (here m class k s rest on) same) ∙ later
    by (Prop t) false same later = later
    by (Action a) true same later = later
    by (Action a) false same later = later

from_start : (m : Meaning) (class : ℕ) → GoesOn m class 0 (slots m.schema.classes class)
from_start m class = λ j. ap (slice_get (slots m.schema.classes class)) (let e : j ≡ 0 + j = omega arith in e)

-- they are properties
pub config_are_properties : (m : Meaning) (class : ℕ) → IsTrue (list_all (is_property m class) (config_slots m class))
config_are_properties m class = from_here m class 0 (slots m.schema.classes class) (from_start m class)

-- ---- the bytes of their values

abbrev sizes_of : List SlotInfo → ℕ
sizes_of ss = sum_by (λ (s : SlotInfo). value_size s.form) ss

abbrev bytes_of : Meaning → ℕ → List ℕ → List ℕ
bytes_of m class numbers = spelling_of_all (map (slot_value m (new_object m class)) numbers)

one_longer : (m : Meaning) (class k : ℕ) (numbers : List ℕ) → length (bytes_of m class (k ∷ numbers)) ≡ length (spelling_of (slot_value m (new_object m class) k)) + length (bytes_of m class numbers)
one_longer m class k numbers = length-append (spelling_of (slot_value m (new_object m class) k)) (bytes_of m class numbers)

one_size : (s : SlotInfo) (ss : List SlotInfo) → sizes_of (s ∷ ss) ≡ value_size s.form + sizes_of ss
one_size s ss = sum_by-cons (λ (s : SlotInfo). value_size s.form) s ss

sizes_here : (m : Meaning) (class k : ℕ) (rest : List SlotInfo) → HasTables m → class < length m.schema.classes → GoesOn m class k rest
    → length (bytes_of m class (numbers_from is_config k rest)) ≤ sizes_of (filter (λ (s : SlotInfo). s.config) rest)
sizes_here m class k [] tables within on = omega arith
sizes_here m class k (s ∷ rest) tables within on = by s.form s.config refl (sizes_here m class (k + 1) rest tables within (behind m class k s rest on))
  where
    by : (form : SlotForm) (config : Bool) → s.form ≡ form → length (bytes_of m class (numbers_from is_config (k + 1) rest)) ≤ sizes_of (filter (λ (s : SlotInfo). s.config) rest)
        → length (bytes_of m class (number_and k s (is_property_form form && config) rest))
        ≤ sizes_of (if config then s ∷ filter (λ (s : SlotInfo). s.config) rest else filter (λ (s : SlotInfo). s.config) rest)
    by (Prop t) true same later =
        let fits = spelling-size t (slot_value m (new_object m class) k) (first_is_of_type m class k t tables within (type_here m class k s t (here m class k s rest on) same)) in
        let size : value_size s.form ≡ value_size (Prop t) = ap value_size same in
        let front = one_longer m class k (numbers_from is_config (k + 1) rest) in
        let whole = one_size s (filter (λ (s : SlotInfo). s.config) rest) in
        omega (arith, fits, size, front, whole, later)
    by (Prop t) false same later = later
    by (Action a) true same later =
        let whole = one_size s (filter (λ (s : SlotInfo). s.config) rest) in
        omega (arith, whole, later)
    by (Action a) false same later = later

at_class : (m : Meaning) (class : ℕ) (c : ClassInfo) → HasTables m → slice_get m.schema.classes class ≡ Some c → config_size (slots m.schema.classes class) ≤ 400
at_class m class c tables at =
    let most : config_size c.slots ≤ 400 =
    subst (λ (c : ClassInfo). config_size c.slots ≤ 400) (get_or_from_slice_get m.schema.classes class c c at) (tables.limits.config class c (slice_get_within m.schema.classes class c at)) in
    let same : config_size (slots m.schema.classes class) ≡ config_size c.slots = ap (λ r. config_size (option_map_or (λ (c : ClassInfo). c.slots) r [])) at in
    omega (arith, most, same)

-- they take at most 400 bytes
pub config_is_short : (m : Meaning) (class : ℕ) (c : ClassInfo) → HasTables m → slice_get m.schema.classes class ≡ Some c → length (initial_config m class) ≤ 400
config_is_short m class c tables at =
    let within = slice_get_within m.schema.classes class c at in
    let fits = sizes_here m class 0 (slots m.schema.classes class) tables within (from_start m class) in
    let most = at_class m class c tables at in
    omega (arith, fits, most)
