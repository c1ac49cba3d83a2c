-- The values of slots as bytes, and how long they are.
use Rattle.std.proofs.Common.{◌≡◌, ℕ, ◌+◌, ◌≤◌, ◌<◌, Bool, true, false, List, [], ◌∷◌, ◌++◌, length, drop, map, filter, get_or, refl, sym, ◌∙◌, ap, subst, arith, add-one, inl, inr}
use Rattle.std.specs.Prelude.{Option, Some, None, IsTrue, IfSome, IsSomeAnd, nat_le, not, ◌⊎◌, sum_by, slice_get, ◌&&◌, if◌then◌else◌}
use Rattle.std.specs.List.{enumerate_from}
use Rattle.std.specs.Option.{option_and_then, option_map, option_map_or}
use Rattle.std.specs.FinMap as finite
use Rattle.std.proofs.Math.Seq.{drop-cons}
use Rattle.std.proofs.lemmas.List.Sums.{sum_by-cons}
use Rattle.std.proofs.lemmas.Bool.Decides.{nat_tests}
use Rattle.std.proofs.Math.ListN.{drop_of_length-le}
use Rattle.std.proofs.lemmas.Option.{get_or_from_slice_get, slice_get_cases, slice_get_within}
use Rattle.sed_value.specs.Value.{are_bytes, is_of_type}
use Rattle.sed_value.specs.Characters.{is_letter, is_letter_or_digit, is_word_byte}
use Rattle.sed_value.specs.declared.slot_type.Primitive.TheVariants.{Bool as BoolType, Byte as ByteType, Short as ShortType, Int as IntType, Long as LongType}
use Rattle.sed_value.specs.declared.slot_type.SlotType.{SlotType}
use Rattle.sed_value.specs.declared.slot_type.SlotType.TheVariants.{Prim as PrimSlot, Buf as BufSlot}
use Rattle.sed_value.specs.declared.value.Value.{Value}
use Rattle.sed_value.specs.declared.value.Value.TheVariants.{Bool as Truth, Byte, Short, Int, Long, Buf}
use Rattle.sed_typed.specs.declared.schema.ClassInfo.{ClassInfo}
use Rattle.sed_typed.specs.declared.schema.Schema.{Schema}
use Rattle.sed_typed.specs.declared.schema.SlotForm.{SlotForm}
use Rattle.sed_typed.specs.declared.schema.SlotForm.TheVariants.{Prop, Action}
use Rattle.sed_typed.specs.declared.schema.SlotInfo.{SlotInfo}
use Rattle.sed_typed.specs.Classes.{slots}
use Rattle.sed_typed.specs.Sizes.{config_size, runtime_size, value_size}
use Rattle.sed_engine.specs.Whole.{KeepsLimits}
use Rattle.comp_tree.specs.Application.{ById, Component, type_at, value_at}
use Rattle.comp_tree.specs.Parts.{class_bytes, is_property_form, u1}
use Rattle.sed_engine.specs.Code.{Meaning, property_type, slot_form}
use Rattle.sed_value.specs.Names.{is_first_then, is_kit_name, is_name}
use Rattle.comp_tree.specs.Values.{spelling_of, spelling_of_all}
use Rattle.app_parts.specs.declared.values.Values.{Values}
use Rattle.app_parts.specs.declared.values.Values.TheVariants.{Config, Runtime}
use Rattle.app_parts.specs.Values.{is_told, slot_bytes, slot_size, values_bytes}

-- ---- one value

second_of : (a b : Bool) → IsTrue (a && b) → IsTrue b
second_of true b h = h
second_of false b h = absurd (let no : false ≡ true = h in cc)

-- a value of a type takes no more bytes than the type says
pub spelling-size : (t : SlotType) (v : Value) → IsTrue (is_of_type t v) → length (spelling_of v) ≤ value_size (Prop t)
spelling-size (PrimSlot BoolType) (Truth truth) is = omega arith
spelling-size (PrimSlot BoolType) v is = absurd (let no : false ≡ true = is in cc)
spelling-size (PrimSlot ByteType) (Byte number) is = omega arith
spelling-size (PrimSlot ByteType) v is = absurd (let no : false ≡ true = is in cc)
spelling-size (PrimSlot ShortType) (Short number) is = omega arith
spelling-size (PrimSlot ShortType) v is = absurd (let no : false ≡ true = is in cc)
spelling-size (PrimSlot IntType) (Int number) is = omega arith
spelling-size (PrimSlot IntType) v is = absurd (let no : false ≡ true = is in cc)
spelling-size (PrimSlot LongType) (Long number) is = omega arith
spelling-size (PrimSlot LongType) v is = absurd (let no : false ≡ true = is in cc)
spelling-size (BufSlot most) (Buf bytes) is =
    let short = second_of (are_bytes bytes) (nat_le (length bytes) most) is in
    let within : length bytes ≤ most = grind (arith, nat_tests) in
    omega arith
spelling-size (BufSlot most) v is = absurd (let no : false ≡ true = is in cc)

-- ---- the slots of a class, one after another

-- the bytes of the slots that are told, where the first has this number
pub values_from : (SlotInfo → Bool) → (ℕ → Value) → ℕ → List SlotInfo → List ℕ
values_from is value n [] = []
values_from is value n (s ∷ ss) = (if is s then spelling_of (value n) else []) ++ values_from is value (n + 1) ss

-- and their sizes
unfoldable pub sizes_from : (SlotInfo → Bool) → List SlotInfo → ℕ
sizes_from is [] = 0
sizes_from is (s ∷ ss) = (if is s then value_size s.form else 0) + sizes_from is ss

abbrev told_from : (SlotInfo → Bool) → ℕ → List SlotInfo → List (ℕ × SlotInfo)
told_from is n ss = filter (λ (e : ℕ × SlotInfo). is e.1) (enumerate_from n ss)

pub values_are : (is : SlotInfo → Bool) (value : ℕ → Value) (n : ℕ) (ss : List SlotInfo)
    → values_from is value n ss ≡ spelling_of_all (map value (map (λ (e : ℕ × SlotInfo). e.0) (filter (λ (e : ℕ × SlotInfo). is e.1) (enumerate_from n ss))))
unfolding values_from
values_are is value n [] = refl
values_are is value n (s ∷ ss) = by (is s) (values_are is value (n + 1) ss)
  where
    by : (b : Bool) → values_from is value (n + 1) ss ≡ spelling_of_all (map value (map (λ (e : ℕ × SlotInfo). e.0) (told_from is (n + 1) ss)))
        → (if b then spelling_of (value n) else []) ++ values_from is value (n + 1) ss
        ≡ spelling_of_all (map value (map (λ (e : ℕ × SlotInfo). e.0) (if b then (n, s) ∷ told_from is (n + 1) ss else told_from is (n + 1) ss)))
    by true rest = ap (λ (t : List ℕ). spelling_of (value n) ++ t) rest
    by false rest = rest

module _ (is : SlotInfo → Bool) where
  pub value_first : (value : ℕ → Value) (ss : List SlotInfo) (n : ℕ) (s : SlotInfo) → slice_get ss n ≡ Some s
      → (if is s then spelling_of (value n) else []) ++ values_from is value (n + 1) (drop (n + 1) ss) ≡ values_from is value n (drop n ss)
  unfolding values_from
  value_first value ss n s at =
      let within : n < length ss = slice_get_within ss n s at in
      let front : drop n ss ≡ s ∷ drop (n + 1) ss =
      drop-cons ss n s within ∙ ap (λ (k : ℕ). get_or ss n s ∷ drop k ss) (sym (add-one n)) ∙ ap (λ (x : SlotInfo). x ∷ drop (n + 1) ss) (get_or_from_slice_get ss n s s at) in
      sym (ap (values_from is value n) front)

  pub size_first : (ss : List SlotInfo) (n : ℕ) (s : SlotInfo) → slice_get ss n ≡ Some s
      → (if is s then value_size s.form else 0) + sizes_from is (drop (n + 1) ss) ≡ sizes_from is (drop n ss)
  unfolding sizes_from
  size_first ss n s at =
      let within : n < length ss = slice_get_within ss n s at in
      let front : drop n ss ≡ s ∷ drop (n + 1) ss =
      drop-cons ss n s within ∙ ap (λ (k : ℕ). get_or ss n s ∷ drop k ss) (sym (add-one n)) ∙ ap (λ (x : SlotInfo). x ∷ drop (n + 1) ss) (get_or_from_slice_get ss n s s at) in
      sym (ap (sizes_from is) front)

  pub none_behind : (value : ℕ → Value) (ss : List SlotInfo) (n : ℕ) → length ss ≤ n → values_from is value n (drop n ss) ≡ []
  unfolding values_from
  none_behind value ss n past = ap (values_from is value n) (drop_of_length-le ss past)

both_less : {a b c d : ℕ} → a ≤ b → c ≤ d → a + c ≤ b + d
both_less p q = omega arith

none_less : {a c d : ℕ} → a ≤ 0 → c ≤ d → a + c ≤ d
none_less p q = omega arith

-- those that are told take no more than the class may
fewer : (is is_any : SlotInfo → Bool) → ((s : SlotInfo) → (if is s then value_size s.form else 0) ≤ (if is_any s then value_size s.form else 0)) → (ss : List SlotInfo)
    → sizes_from is ss ≤ sum_by (λ (s : SlotInfo). value_size s.form) (filter is_any ss)
unfolding sizes_from
fewer is is_any each [] = omega arith
fewer is is_any each (s ∷ ss) = by (is_any s) (each s) (fewer is is_any each ss)
  where
    by : (b : Bool) → (if is s then value_size s.form else 0) ≤ (if b then value_size s.form else 0)
        → sizes_from is ss ≤ sum_by (λ (s : SlotInfo). value_size s.form) (filter is_any ss)
        → (if is s then value_size s.form else 0) + sizes_from is ss ≤ sum_by (λ (s : SlotInfo). value_size s.form) (if b then s ∷ filter is_any ss else filter is_any ss)
    by true le rest =
        let size : SlotInfo → ℕ = λ s. value_size s.form in
        subst (λ (n : ℕ). (if is s then value_size s.form else 0) + sizes_from is ss ≤ n) (sym (sum_by-cons size s (filter is_any ss))) (both_less le rest)
    by false le rest = none_less le rest

by_form : (form : SlotForm) (config : Bool) → (if is_property_form form && config then value_size form else 0) ≤ (if config then value_size form else 0)
by_form (Prop t) true = omega arith
by_form (Prop t) false = omega arith
by_form (Action a) true = omega arith
by_form (Action a) false = omega arith

pub few_bytes : (schema : Schema) → KeepsLimits schema → (class : ℕ) (which : Values) → sizes_from (is_told which) (slots schema.classes class) ≤ 400
unfolding sizes_from
few_bytes schema keeps class which = by_class (slice_get schema.classes class) refl
  where
    at_class : (c : ClassInfo) → slice_get schema.classes class ≡ Some c → (which : Values) → sizes_from (is_told which) c.slots ≤ 400
    at_class c at Config =
        let most : config_size c.slots ≤ 400 = subst (λ (c : ClassInfo). config_size c.slots ≤ 400) (get_or_from_slice_get schema.classes class c c at) (keeps.config class c (slice_get_within schema.classes class c at)) in
        omega (arith, fewer (is_told Config) (λ (s : SlotInfo). s.config) (λ s. by_form s.form s.config) c.slots, most)
    at_class c at Runtime =
        let most : runtime_size c.slots ≤ 400 = subst (λ (c : ClassInfo). runtime_size c.slots ≤ 400) (get_or_from_slice_get schema.classes class c c at) (keeps.runtime class c (slice_get_within schema.classes class c at)) in
        omega (arith, fewer (is_told Runtime) (λ (s : SlotInfo). not s.config) (λ s. by_form s.form (not s.config)) c.slots, most)

    by_class : (r : Option ClassInfo) → slice_get schema.classes class ≡ r → sizes_from (is_told which) (option_map_or (λ (c : ClassInfo). c.slots) r []) ≤ 400
    by_class None at = omega arith
    by_class (Some c) at = at_class c at which

-- ---- the class, and names

-- the kit of a class and its number there
pub class-put : (m : Meaning) (schema : Schema) (kind kit number : ℕ) → m.schema ≡ schema
    → ◌≡◌ {A = Option (ℕ × ℕ)} (Some (kit, number)) (option_map (λ (c : ClassInfo). (c.kit, c.number)) (slice_get schema.classes kind)) → u1 kit ++ u1 number ≡ class_bytes m kind
class-put m schema kind kit number same found = by (slice_get schema.classes kind) found ∙ ap (λ (s : Schema). option_map_or (λ (c : ClassInfo). u1 c.kit ++ u1 c.number) (slice_get s.classes kind) []) (sym same)
  where
    by : (r : Option ClassInfo) → ◌≡◌ {A = Option (ℕ × ℕ)} (Some (kit, number)) (option_map (λ (c : ClassInfo). (c.kit, c.number)) r)
        → u1 kit ++ u1 number ≡ option_map_or (λ (c : ClassInfo). u1 c.kit ++ u1 c.number) r []
    by None e = absurd (let no : ◌≡◌ {A = Option (ℕ × ℕ)} (Some (kit, number)) None = e in cc)
    by (Some c) e =
        let first : kit ≡ c.kit = ap (λ (o : Option (ℕ × ℕ)). option_map_or (λ (p : ℕ × ℕ). p.0) o 0) e in
        let second : number ≡ c.number = ap (λ (o : Option (ℕ × ℕ)). option_map_or (λ (p : ℕ × ℕ). p.1) o 0) e in
        λ i. u1 (first i) ++ u1 (second i)

pub no_class-put : (m : Meaning) (schema : Schema) (kind : ℕ) → m.schema ≡ schema
    → ◌≡◌ {A = Option (ℕ × ℕ)} None (option_map (λ (c : ClassInfo). (c.kit, c.number)) (slice_get schema.classes kind)) → [] ≡ class_bytes m kind
no_class-put m schema kind same none = by (slice_get schema.classes kind) none ∙ ap (λ (s : Schema). option_map_or (λ (c : ClassInfo). u1 c.kit ++ u1 c.number) (slice_get s.classes kind) []) (sym same)
  where
    by : (r : Option ClassInfo) → ◌≡◌ {A = Option (ℕ × ℕ)} None (option_map (λ (c : ClassInfo). (c.kit, c.number)) r)
        → [] ≡ option_map_or (λ (c : ClassInfo). u1 c.kit ++ u1 c.number) r []
    by None e = refl
    by (Some c) e = absurd (let no : ◌≡◌ {A = Option (ℕ × ℕ)} None (Some (c.kit, c.number)) = e in cc)

pub class_short : (m : Meaning) (kind : ℕ) → length (class_bytes m kind) ≤ 2
class_short m kind = by (slice_get m.schema.classes kind)
  where
    by : (r : Option ClassInfo) → length (option_map_or (λ (c : ClassInfo). u1 c.kit ++ u1 c.number) r []) ≤ 2
    by None = omega arith
    by (Some c) = omega arith

pub name_short : (name : List ℕ) → IsTrue (is_name name) → length name ≤ 31
name_short name is = let short = second_of (is_first_then is_letter is_word_byte name) (nat_le (length name) 31) is in grind (arith, nat_tests)

pub kit_name_short : (name : List ℕ) → IsTrue (is_kit_name name) → length name ≤ 24
kit_name_short name is = let short = second_of (is_first_then is_letter is_letter_or_digit name) (nat_le (length name) 24) is in grind (arith, nat_tests)

-- ---- a slot that is told

told_form : (which : Values) (s : SlotInfo) → is_told which s ≡ true → (t : SlotType) × (s.form ≡ Prop t)
told_form Config s is = of_form s.form is
  where
    of_form : (f : SlotForm) → (is_property_form f && s.config) ≡ true → (t : SlotType) × (f ≡ Prop t)
    of_form (Prop t) is = (t, refl)
    of_form (Action a) is = absurd (let no : false ≡ true = is in cc)
told_form Runtime s is = of_form s.form is
  where
    of_form : (f : SlotForm) → (is_property_form f && not s.config) ≡ true → (t : SlotType) × (f ≡ Prop t)
    of_form (Prop t) is = (t, refl)
    of_form (Action a) is = absurd (let no : false ≡ true = is in cc)

-- the value of a slot that is told takes no more bytes than the slot says
pub told-size : (m : Meaning) (all : ById) (id class slot : ℕ) (which : Values) (v : Value)
    → option_map_or (is_told which) (slice_get (slots m.schema.classes class) slot) false ≡ true
    → IsSomeAnd (finite.get all id) (λ (c : Component). c.class ≡ class)
    → IfSome (type_at m all id slot) (λ t. IsTrue (is_of_type t v)) → length (spelling_of v) ≤ slot_size m class which slot
told-size m all id class slot which v told there typed = by (slice_get (slots m.schema.classes class) slot) refl told
  where
    type_of : (r : Option Component) → IsSomeAnd r (λ (c : Component). c.class ≡ class)
        → IfSome (property_type (option_and_then (λ (c : Component). slot_form m c.class slot) r)) (λ t. IsTrue (is_of_type t v))
        → IfSome (property_type (slot_form m class slot)) (λ t. IsTrue (is_of_type t v))
    type_of None none typed = absurd none
    type_of (Some c) is typed = subst (λ (k : ℕ). IfSome (property_type (slot_form m k slot)) (λ t. IsTrue (is_of_type t v))) is typed

    by : (r : Option SlotInfo) → slice_get (slots m.schema.classes class) slot ≡ r → option_map_or (is_told which) r false ≡ true
        → length (spelling_of v) ≤ option_map_or (λ (s : SlotInfo). if is_told which s then value_size s.form else 0) r 0
    by None at is = absurd (let no : false ≡ true = is in cc)
    by (Some s) at is =
        let f = told_form which s is in
        let form : slot_form m class slot ≡ Some (Prop f.0) = ap (option_map (λ (s : SlotInfo). s.form)) at ∙ ap Some f.1 in
        let fits : IsTrue (is_of_type f.0 v) = subst (λ (o : Option SlotForm). IfSome (property_type o) (λ t. IsTrue (is_of_type t v))) form (type_of (finite.get all id) there typed) in
        rw is (subst (λ (x : SlotForm). length (spelling_of v) ≤ value_size x) (sym f.1) (spelling-size f.0 v fits))

pub told_bytes : (m : Meaning) (all : ById) (id class slot : ℕ) (which : Values)
    → option_map_or (is_told which) (slice_get (slots m.schema.classes class) slot) false ≡ true
    → slot_bytes m all id class which slot ≡ spelling_of (value_at m all id slot)
told_bytes m all id class slot which told = by (slice_get (slots m.schema.classes class) slot) told
  where
    by : (r : Option SlotInfo) → option_map_or (is_told which) r false ≡ true
        → option_map_or (λ (s : SlotInfo). if is_told which s then spelling_of (value_at m all id slot) else []) r [] ≡ spelling_of (value_at m all id slot)
    by None is = absurd (let no : false ≡ true = is in cc)
    by (Some s) is = rw is refl

pub untold_bytes : (m : Meaning) (all : ById) (id class slot : ℕ) (which : Values)
    → option_map_or (is_told which) (slice_get (slots m.schema.classes class) slot) false ≡ false
    → slot_bytes m all id class which slot ≡ []
untold_bytes m all id class slot which told = by (slice_get (slots m.schema.classes class) slot) told
  where
    by : (r : Option SlotInfo) → option_map_or (is_told which) r false ≡ false
        → option_map_or (λ (s : SlotInfo). if is_told which s then spelling_of (value_at m all id slot) else []) r [] ≡ []
    by None is = refl
    by (Some s) is = rw is refl

-- ---- a slot among the others

pub slot-bytes-first : (m : Meaning) (all : ById) (id class slot : ℕ) (which : Values) → slot < length (slots m.schema.classes class)
    → slot_bytes m all id class which slot ++ values_from (is_told which) (value_at m all id) (slot + 1) (drop (slot + 1) (slots m.schema.classes class))
    ≡ values_from (is_told which) (value_at m all id) slot (drop slot (slots m.schema.classes class))
slot-bytes-first m all id class slot which lt = by (slice_get_cases (slots m.schema.classes class) slot).1
  where
    by : ((s : SlotInfo) × (slot < length (slots m.schema.classes class)) × (slice_get (slots m.schema.classes class) slot ≡ Some s) × (get_or (slots m.schema.classes class) slot s ≡ s))
        ⊎ ((length (slots m.schema.classes class) ≤ slot) × (slice_get (slots m.schema.classes class) slot ≡ None))
        → slot_bytes m all id class which slot ++ values_from (is_told which) (value_at m all id) (slot + 1) (drop (slot + 1) (slots m.schema.classes class))
        ≡ values_from (is_told which) (value_at m all id) slot (drop slot (slots m.schema.classes class))
    by (inl there) =
        ap (λ (r : Option SlotInfo). option_map_or (λ (s : SlotInfo). if is_told which s then spelling_of (value_at m all id slot) else []) r []
        ++ values_from (is_told which) (value_at m all id) (slot + 1) (drop (slot + 1) (slots m.schema.classes class))) there.2
        ∙ value_first (is_told which) (value_at m all id) (slots m.schema.classes class) slot there.0 there.2
    by (inr past) = absurd (let le = past.0 in omega (arith, le, lt))

pub slot-size-first : (m : Meaning) (class slot : ℕ) (which : Values) → slot < length (slots m.schema.classes class)
    → slot_size m class which slot + sizes_from (is_told which) (drop (slot + 1) (slots m.schema.classes class)) ≡ sizes_from (is_told which) (drop slot (slots m.schema.classes class))
slot-size-first m class slot which lt = by (slice_get_cases (slots m.schema.classes class) slot).1
  where
    by : ((s : SlotInfo) × (slot < length (slots m.schema.classes class)) × (slice_get (slots m.schema.classes class) slot ≡ Some s) × (get_or (slots m.schema.classes class) slot s ≡ s))
        ⊎ ((length (slots m.schema.classes class) ≤ slot) × (slice_get (slots m.schema.classes class) slot ≡ None))
        → slot_size m class which slot + sizes_from (is_told which) (drop (slot + 1) (slots m.schema.classes class)) ≡ sizes_from (is_told which) (drop slot (slots m.schema.classes class))
    by (inl there) =
        ap (λ (r : Option SlotInfo). option_map_or (λ (s : SlotInfo). if is_told which s then value_size s.form else 0) r 0
        + sizes_from (is_told which) (drop (slot + 1) (slots m.schema.classes class))) there.2
        ∙ size_first (is_told which) (slots m.schema.classes class) slot there.0 there.2
    by (inr past) = absurd (let le = past.0 in omega (arith, le, lt))

-- the values of all slots
pub values_bytes-are : (m : Meaning) (all : ById) (id class : ℕ) (which : Values)
    → values_from (is_told which) (value_at m all id) 0 (slots m.schema.classes class) ≡ values_bytes m all id class which
values_bytes-are m all id class which = values_are (is_told which) (value_at m all id) 0 (slots m.schema.classes class)
