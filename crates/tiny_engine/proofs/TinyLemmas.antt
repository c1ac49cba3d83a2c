-- What the map of at most one object has, and what is true of the code of `sys`.
use Rattle.std.proofs.Common.{◌≡◌, ◌⊎◌, inl, inr, ℕ, ℤ, pos, zero, suc, ◌+◌, ◌≤◌, ◌==◌, ◌&&◌, ◌||◌, Bool, true, false, cond, if◌then◌else◌, List, [], ◌∷◌, length, map, Option, Some, None, refl, sym, ap, subst, ◌∙◌, arith}
use Rattle.std.specs.Prelude.{IsTrue, IsSome, IfSome, IsSomeAnd, is_some, sum_by, nat_lt}
use Rattle.std.specs.FinMap as finite
use Rattle.std.specs.Ordering.{nat_cmp, eq_by_cmp}
use Rattle.std.specs.Cmp.{nat_cmp_total}
use Rattle.std.proofs.lemmas.Bool.{cases_eq}
use Rattle.std.proofs.lemmas.Bool.Decides.{nat_tests}
use Rattle.sed_value.specs.declared.value.Value.{Value}
use Rattle.sed_value.specs.declared.value.Value.TheVariants as kept
use Rattle.sed_value.specs.declared.slot_type.Primitive.TheVariants as prim
use Rattle.sed_value.specs.declared.slot_type.SlotType.{SlotType}
use Rattle.sed_value.specs.declared.slot_type.SlotType.TheVariants.{Prim}
use Rattle.sed_value.specs.Value.{stored, goes_to}
use Rattle.std.specs.Option.{option_map, option_map_or}
use Rattle.sed_typed.specs.Contents.{with_value}
use Rattle.sed_typed.specs.declared.schema.ClassInfo.{ClassInfo}
use Rattle.sed_typed.specs.declared.schema.Schema.{Schema}
use Rattle.std.specs.Int.{w64}
use Rattle.sed_value.specs.Value.{is_signed}
use Rattle.sed_engine.specs.declared.call.CallEnd.TheVariants.{Done}
use Rattle.sed_engine.specs.declared.call.Root.{Root}
use Rattle.sed_engine.specs.Asked.{MayAsk}
use Rattle.sed_engine.specs.Code.{Object, Places, Question, asked_of, called, data_of, is_creatable, is_property, is_same_field, may_call, may_store, root_of, slot_value, slot_type, slot_path, with_slot}
use Rattle.sed_engine.specs.Root.{RootEnd}
use Rattle.sed_engine.specs.Fits.{form_at}
use Rattle.sed_engine.specs.Whole.{IsObject, field_form}
use Rattle.sed_engine.proofs.Asking.{may_then}
use Rattle.tiny_engine.specs.Sys.{sys_classes}
use Rattle.tiny_engine.specs.Tiny.{Held, One, code_of, meta_is, meaning_of, object_of, live_of, int_or, has_meta, sys_fields, sys_slot_field, IsCreated, IsSys, KeepsInt}
use Rattle.tiny_engine.proofs.WholeSys.{created_has, created_may, one_fits, sys_tables}

no_entry : {A : Type 0} (es : List A) → length es ≡ 0 → es ≡ []
no_entry [] e = refl
no_entry (x ∷ es) e = absurd (omega arith)

tied : (a b : ℕ) → eq_by_cmp nat_cmp a b ≡ (a == b)
tied a b = grind (arith, nat_tests)

-- ---- maps

pub get_none : (p : ℕ) → finite.get (live_of None) p ≡ None
get_none p = finite.get-empty nat_cmp p

pub get_one : (o : One) (p : ℕ) → finite.get (live_of (Some o)) p ≡ cond (p == 0) (Some (object_of o)) None
get_one o p =
    finite.get-insert nat_cmp_total finite.empty 0 (object_of o) p
    ∙ ap (λ (r : Option Object). cond (eq_by_cmp nat_cmp p 0) (Some (object_of o)) r) (finite.get-empty nat_cmp p)
    ∙ ap (λ (b : Bool). cond b (Some (object_of o)) None) (tied p 0)

entries_none : finite.entries (live_of None) ≡ []
entries_none = no_entry (finite.entries (live_of None)) (sym (finite.len-entries (live_of None)) ∙ finite.len-empty nat_cmp Object)

entries_one : (o : One) → finite.entries (live_of (Some o)) ≡ (0, object_of o) ∷ []
entries_one o = finite.entries-insert nat_cmp_total finite.empty 0 (object_of o) ∙ ap (finite.put nat_cmp 0 (object_of o)) entries_none

-- the place of an object is 0
pub at_zero : (o : One) (p : ℕ) → IsSome (finite.get (live_of (Some o)) p) → p ≡ 0
at_zero o p h =
    let k : is_some (cond (p == 0) (Some (object_of o)) None) ≡ true = sym (ap (λ (r : Option Object). is_some r) (get_one o p)) ∙ h in
    go (p == 0) refl k
  where
    go : (b : Bool) → (p == 0) ≡ b → is_some (cond b (Some (object_of o)) None) ≡ true → p ≡ 0
    go true e k = grind (arith, nat_tests)
    go false e k = let never : ⊥ = cc in absurd never

-- a map with what it has put where it is
pub put_again : (m : Places) (p : ℕ) (o : Object) → finite.get m p ≡ Some o → m ≡ finite.insert m p o
put_again m p o h = finite.same_map nat_cmp_total finite.nat_cmp-IsAntisymmetric m (finite.insert m p o) (λ q. step q ∙ sym (finite.get-insert nat_cmp_total m p o q))
  where
    step : (q : ℕ) → finite.get m q ≡ cond (eq_by_cmp nat_cmp q p) (Some o) (finite.get m q)
    step q = elim (cases_eq q p) [
      | inl e ↦ let t : eq_by_cmp nat_cmp q p ≡ true = tied q p ∙ grind (arith, nat_tests) in
          ap (finite.get m) e ∙ h ∙ ap (λ (b : Bool). cond b (Some o) (finite.get m q)) (sym t)
      | inr ne ↦ let t : eq_by_cmp nat_cmp q p ≡ false = tied q p ∙ grind (arith, nat_tests) in
          ap (λ (b : Bool). cond b (Some o) (finite.get m q)) (sym t)
    ]

if_some_of : {T : Type 0} (r : Option T) (P : T → Type 0) → ((x : T) → r ≡ Some x → P x) → IfSome r P
if_some_of None P f = tt
if_some_of (Some x) P f = f x refl

pub stays : (m : Places) (p : ℕ) → IfSome (finite.get m p) (λ o. m ≡ finite.insert m p o)
stays m p = if_some_of (finite.get m p) (λ o. m ≡ finite.insert m p o) (λ o h. put_again m p o h)

-- another object in its place
pub replaced : (o n : One) (p : ℕ) → p ≡ 0 → live_of (Some n) ≡ finite.insert (live_of (Some o)) p (object_of n)
replaced o n p e =
    finite.same_map nat_cmp_total finite.nat_cmp-IsAntisymmetric (live_of (Some n)) (finite.insert (live_of (Some o)) p (object_of n)) (λ q.
    get_one n q ∙ step q (q == 0) refl ∙ sym (finite.get-insert nat_cmp_total (live_of (Some o)) p (object_of n) q))
  where
    step : (q : ℕ) (b : Bool) → (q == 0) ≡ b → cond (q == 0) (Some (object_of n)) None ≡ cond (eq_by_cmp nat_cmp q p) (Some (object_of n)) (finite.get (live_of (Some o)) q)
    step q true h =
        let t : eq_by_cmp nat_cmp q p ≡ true = tied q p ∙ grind (arith, nat_tests) in
        ap (λ (b : Bool). cond b (Some (object_of n)) None) h ∙ ap (λ (b : Bool). cond b (Some (object_of n)) (finite.get (live_of (Some o)) q)) (sym t)
    step q false h =
        let t : eq_by_cmp nat_cmp q p ≡ false = tied q p ∙ grind (arith, nat_tests) in
        ap (λ (b : Bool). cond b (Some (object_of n)) None) h ∙ sym (get_one o q ∙ ap (λ (b : Bool). cond b (Some (object_of o)) None) h) ∙ ap (λ (b : Bool). cond b (Some (object_of n)) (finite.get (live_of (Some o)) q)) (sym t)

-- the only object taken away
pub emptied : (one : Option One) (p : ℕ) → IsSome (finite.get (live_of one) p) → live_of None ≡ finite.remove (live_of one) p
emptied None p h = let never : ⊥ = let k : is_some {T = Object} None ≡ true = sym (ap (λ (r : Option Object). is_some r) (get_none p)) ∙ h in cc in absurd never
emptied (Some o) p h =
    let zero_is : p ≡ 0 = at_zero o p h in
    finite.same_map nat_cmp_total finite.nat_cmp-IsAntisymmetric (live_of None) (finite.remove (live_of (Some o)) p) (λ q.
    get_none q ∙ sym (finite.get-remove nat_cmp_total (live_of (Some o)) p q ∙ step q zero_is (q == 0) refl))
  where
    step : (q : ℕ) → p ≡ 0 → (b : Bool) → (q == 0) ≡ b → cond (eq_by_cmp nat_cmp q p) None (finite.get (live_of (Some o)) q) ≡ None
    step q e true k =
        let t : eq_by_cmp nat_cmp q p ≡ true = tied q p ∙ grind (arith, nat_tests) in
        ap (λ (b : Bool). cond b None (finite.get (live_of (Some o)) q)) t
    step q e false k =
        let t : eq_by_cmp nat_cmp q p ≡ false = tied q p ∙ grind (arith, nat_tests) in
        ap (λ (b : Bool). cond b None (finite.get (live_of (Some o)) q)) t ∙ get_one o q ∙ ap (λ (b : Bool). cond b (Some (object_of o)) None) k

-- ---- the code

-- the data of what is live
pub data_none : (schema : Schema) → data_of (meaning_of schema) (live_of None) ≡ 0
data_none schema = ap (λ (es : List (ℕ × Object)). sum_by (λ (o : Object). (meaning_of schema).data_size o.class) (map (λ e. e.1) es)) entries_none

pub data_one : (schema : Schema) (o : One) → IsCreated (Some o) → data_of (meaning_of schema) (live_of (Some o)) ≡ 4
data_one schema o created =
    ap (λ (es : List (ℕ × Object)). sum_by (λ (o : Object). (meaning_of schema).data_size o.class) (map (λ e. e.1) es)) (entries_one o)
    ∙ ap (λ (b : Bool). 0 + (if b then 4 else 0)) (created_has o.class created)

-- only App and Folder may be created
pub creatable_is : (schema : Schema) → IsSys schema → (n : ℕ) → is_creatable (meaning_of schema) n ≡ true → ((n == 3) || (n == 4)) ≡ true
creatable_is schema sys n h = by_number n (sym (ap (λ (classes : List ClassInfo). is_creatable (meaning_of (record { kits = []; classes = classes })) n) sys.classes) ∙ h)
  where
    by_number : (n : ℕ) → is_creatable (meaning_of (record { kits = []; classes = sys_classes })) n ≡ true → ((n == 3) || (n == 4)) ≡ true
    by_number zero h = let never : ⊥ = cc in absurd never
    by_number (suc zero) h = let never : ⊥ = cc in absurd never
    by_number (suc (suc zero)) h = let never : ⊥ = cc in absurd never
    by_number (suc (suc (suc zero))) h = refl
    by_number (suc (suc (suc (suc zero)))) h = refl
    by_number (suc (suc (suc (suc (suc n))))) h = let never : ⊥ = cc in absurd never

-- of these `meta` is the only property, and the value in it is the object's
pub property_is : (schema : Schema) → IsSys schema → (o : One) → IsCreated (Some o) → (slot : ℕ) → is_property (meaning_of schema) o.class slot ≡ true → slot ≡ 0
property_is schema sys o created slot h =
    by_class o.class created (sym (ap (λ (classes : List ClassInfo). is_property (meaning_of (record { kits = []; classes = classes })) o.class slot) sys.classes) ∙ h)
  where
    by_slot : (n : ℕ) → (n ≡ 3) ⊎ (n ≡ 4) → (slot : ℕ) → is_property (meaning_of (record { kits = []; classes = sys_classes })) n slot ≡ true → slot ≡ 0
    by_slot n (inl e) zero h = refl
    by_slot n (inl e) (suc zero) h = let k : is_property (meaning_of (record { kits = []; classes = sys_classes })) 3 1 ≡ true = sym (ap (λ (m : ℕ). is_property (meaning_of (record { kits = []; classes = sys_classes })) m 1) e) ∙ h in let never : ⊥ = cc in absurd never
    by_slot n (inl e) (suc (suc s)) h = let k : is_property (meaning_of (record { kits = []; classes = sys_classes })) 3 (suc (suc s)) ≡ true = sym (ap (λ (m : ℕ). is_property (meaning_of (record { kits = []; classes = sys_classes })) m (suc (suc s))) e) ∙ h in let never : ⊥ = cc in absurd never
    by_slot n (inr e) zero h = refl
    by_slot n (inr e) (suc s) h = let k : is_property (meaning_of (record { kits = []; classes = sys_classes })) 4 (suc s) ≡ true = sym (ap (λ (m : ℕ). is_property (meaning_of (record { kits = []; classes = sys_classes })) m (suc s)) e) ∙ h in let never : ⊥ = cc in absurd never

    by_class : (n : ℕ) → ((n == 3) || (n == 4)) ≡ true → is_property (meaning_of (record { kits = []; classes = sys_classes })) n slot ≡ true → slot ≡ 0
    by_class n c h = by_slot n (three_or_four n c) slot h
      where
        three_or_four : (n : ℕ) → ((n == 3) || (n == 4)) ≡ true → (n ≡ 3) ⊎ (n ≡ 4)
        three_or_four n c = elim (cases_eq n 3) [ inl e ↦ inl e | inr ne ↦ inr (grind (arith, nat_tests)) ]

meta_at : (schema : Schema) (o : One) (b : Bool) → b ≡ true →
    slot_value (record (meaning_of schema) { slot_field = λ _ slot. if b && (slot == 0) then Some 0 else None }) (object_of o) 0 ≡ kept.Int o.meta
meta_at schema o true h = refl
meta_at schema o false h = let never : ⊥ = cc in absurd never

pub meta_value : (schema : Schema) (o : One) → IsCreated (Some o) → (slot : ℕ) → slot ≡ 0 → slot_value (meaning_of schema) (object_of o) slot ≡ kept.Int o.meta
meta_value schema o created slot e =
    ap (λ (n : ℕ). slot_value (meaning_of schema) (object_of o) n) e ∙ meta_at schema o (has_meta o.class) (created_has o.class created)

-- the type of `meta`
type_is : (schema : Schema) → IsSys schema → (n : ℕ) → ((n == 3) || (n == 4)) ≡ true → slot_type (meaning_of schema) n 0 ≡ Some (Prim prim.Int)
type_is schema sys n c =
    ap (λ (classes : List ClassInfo). slot_type (meaning_of (record { kits = []; classes = classes })) n 0) sys.classes
    ∙ elim (cases_eq n 3) [
      | inl e ↦ ap (λ (m : ℕ). slot_type (meaning_of (record { kits = []; classes = sys_classes })) m 0) e
      | inr ne ↦ let e : n ≡ 4 = grind (arith, nat_tests) in ap (λ (m : ℕ). slot_type (meaning_of (record { kits = []; classes = sys_classes })) m 0) e
    ]

set_at : (schema : Schema) (o : One) (v : Value) (n : ℤ) (b : Bool) → b ≡ true → stored (Prim prim.Int) v ≡ kept.Int n →
    with_value (meta_is o.meta) (slot_path (record (meaning_of schema) { slot_field = λ _ slot. if b && (slot == 0) then Some 0 else None }) o.class 0) (stored (Prim prim.Int) v) ≡ meta_is n
set_at schema o v n true h e = ap (λ (x : Value). (0 ∷ [], x) ∷ []) e
set_at schema o v n false h e = let never : ⊥ = cc in absurd never

-- the object with what is stored in `meta`
pub meta_stored : (schema : Schema) → IsSys schema → (o : One) → IsCreated (Some o) → (slot : ℕ) → slot ≡ 0 → (v : Value) (n : ℤ) → stored (Prim prim.Int) v ≡ kept.Int n →
    with_slot (meaning_of schema) (object_of o) slot v ≡ object_of (record { class = o.class; meta = n })
meta_stored schema sys o created slot e v n is =
    let O : List (List ℕ × Value) → Object = λ contents. record { class = o.class; contents = contents } in
    ap (λ (k : ℕ). with_slot (meaning_of schema) (object_of o) k v) e
    ∙ ap (λ (t : Option SlotType). O (with_value (meta_is o.meta) (slot_path (meaning_of schema) o.class 0) (option_map_or (λ t. stored t v) t v))) (type_is schema sys o.class created)
    ∙ ap O (set_at schema o v n (has_meta o.class) (created_has o.class created) is)

some_zero : (b : Bool) (P : ℕ → Type 0) → IsSomeAnd (if b then Some 0 else None) P → ◌≡◌ {A = Option ℕ} (if b then Some 0 else None) (Some 0)
some_zero true P h = refl
some_zero false P h = absurd h

abbrev HasForm : ℕ → SlotType → ℕ → Type 0
HasForm class t i = form_at (sys_fields class) i ≡ Some (field_form t)

-- a property has the field of `meta`
field_is : (schema : Schema) → IsSys schema → (class slot : ℕ) → is_property (meaning_of schema) class slot ≡ true → sys_slot_field class slot ≡ Some 0
field_is schema sys class slot h = go (slot_type (meaning_of schema) class slot) ((sys_tables schema sys).slot_fields class slot) h
  where
    go : (o : Option SlotType) → IfSome o (λ t. IsSomeAnd (sys_slot_field class slot) (HasForm class t)) → option_map_or (λ (t : SlotType). true) o false ≡ true → sys_slot_field class slot ≡ Some 0
    go None f h = let never : ⊥ = cc in absurd never
    go (Some t) f h = some_zero (has_meta class && (slot == 0)) (HasForm class t) f

-- so any two have one field
pub same_field_is : (schema : Schema) → IsSys schema → (class a b : ℕ) → is_property (meaning_of schema) class a ≡ true → is_property (meaning_of schema) class b ≡ true →
    true ≡ is_same_field (meaning_of schema) class a b
same_field_is schema sys class a b first other = sym
    (ap (λ (o : Option ℕ). option_map_or (λ i. option_map_or (λ j. i == j) (sys_slot_field class b) false) o false) (field_is schema sys class a first)
    ∙ ap (λ (o : Option ℕ). option_map_or (λ j. 0 == j) o false) (field_is schema sys class b other))

-- the data of what is live and of a new component
pub data_is : (schema : Schema) → IsSys schema → (one : Option One) → IsCreated one → (n : ℕ) → is_creatable (meaning_of schema) n ≡ true →
    data_of (meaning_of schema) (live_of one) + (meaning_of schema).data_size n ≡ (if is_some one then 4 else 0) + 4
data_is schema sys None created n h =
    ap (λ (d : ℕ). d + (meaning_of schema).data_size n) (data_none schema) ∙ ap (λ (b : Bool). 0 + (if b then 4 else 0)) (created_has n (creatable_is schema sys n h))
data_is schema sys (Some o) created n h =
    ap (λ (d : ℕ). d + (meaning_of schema).data_size n) (data_one schema o created) ∙ ap (λ (b : Bool). 4 + (if b then 4 else 0)) (created_has n (creatable_is schema sys n h))

pub full_is : (h : Held) → IsSys h.schema → IsCreated h.one → (n : ℕ) → is_creatable (meaning_of h.schema) n ≡ true →
    nat_lt h.limit ((if is_some h.one then 4 else 0) + 4) ≡ nat_lt h.limit (data_of (meaning_of h.schema) (live_of h.one) + (meaning_of h.schema).data_size n)
full_is h sys created n may = ap (nat_lt h.limit) (sym (data_is h.schema sys h.one created n may))

pub is_some_map : {A B : Type 0} (f : A → B) (o : Option A) → is_some (option_map f o) ≡ is_some o
is_some_map f None = refl
is_some_map f (Some x) = refl

pub none_of : (one : Option One) → is_some one ≡ false → one ≡ None
none_of None h = refl
none_of (Some o) h = let never : ⊥ = cc in absurd never

-- what a map of no object has, and of one
none_has : (P : Object → Type 0) (p : ℕ) → IsSomeAnd (finite.get (live_of None) p) P → ⊥
none_has P p h = subst (λ (r : Option Object). IsSomeAnd r P → ⊥) (sym (get_none p)) (λ x. x) h

is_some_of : (P : Object → Type 0) (r : Option Object) → IsSomeAnd r P → IsSome r
is_some_of P None h = absurd h
is_some_of P (Some x) h = refl

one_has : (o : One) (p : ℕ) → p ≡ 0 → finite.get (live_of (Some o)) p ≡ Some (object_of o)
one_has o p e = get_one o p ∙ ap (λ (n : ℕ). cond (n == 0) (Some (object_of o)) None) e

holds : (P : Object → Type 0) (o : One) (p : ℕ) → IsSomeAnd (finite.get (live_of (Some o)) p) P → P (object_of o)
holds P o p h = subst (λ (r : Option Object). IsSomeAnd r P) (one_has o p (at_zero o p (is_some_of P (finite.get (live_of (Some o)) p) h))) h

told : (P : Object → Type 0) (o : One) (p : ℕ) → p ≡ 0 → P (object_of o) → IfSome (finite.get (live_of (Some o)) p) P
told P o p e h = subst (λ (r : Option Object). IfSome r P) (sym (one_has o p e)) h

-- what `get` answers
pub got : (schema : Schema) → IsSys schema → (one : Option One) → IsCreated one → (p slot : ℕ) →
    IsSomeAnd (finite.get (live_of one) p) (λ x. IsTrue (is_property (meaning_of schema) x.class slot)) →
    IfSome (finite.get (live_of one) p) (λ x. option_map_or (λ (o : One). kept.Int o.meta) one kept.Nothing ≡ slot_value (meaning_of schema) x slot)
got schema sys None created p slot has = absurd (none_has (λ x. IsTrue (is_property (meaning_of schema) x.class slot)) p has)
got schema sys (Some o) created p slot has =
    let zero_is : p ≡ 0 = at_zero o p (is_some_of (λ x. IsTrue (is_property (meaning_of schema) x.class slot)) (finite.get (live_of (Some o)) p) has) in
    let slot_is : slot ≡ 0 = property_is schema sys o created slot (holds (λ x. IsTrue (is_property (meaning_of schema) x.class slot)) o p has) in
    told (λ x. kept.Int o.meta ≡ slot_value (meaning_of schema) x slot) o p zero_is (sym (meta_value schema o created slot slot_is))

-- a value that may be stored in `meta` is stored as an int
stored_is : (v : Value) → goes_to (Prim prim.Int) v ≡ true → (m : ℤ) → stored (Prim prim.Int) v ≡ kept.Int (int_or m (stored (Prim prim.Int) v))
stored_is (kept.Bool t) h m = let never : ⊥ = cc in absurd never
stored_is (kept.Byte n) h m = refl
stored_is (kept.Short n) h m = refl
stored_is (kept.Int n) h m = refl
stored_is (kept.Long n) h m = let never : ⊥ = cc in absurd never
stored_is (kept.Buf b) h m = let never : ⊥ = cc in absurd never
stored_is kept.Nothing h m = let never : ⊥ = cc in absurd never

property_of : (t : Option SlotType) (v : Value) → option_map_or (λ t. goes_to t v) t false ≡ true → option_map_or (λ (t : SlotType). true) t false ≡ true
property_of None v h = h
property_of (Some t) v h = refl

-- what `set` leaves
pub set_leaves : (schema : Schema) → IsSys schema → (one : Option One) → IsCreated one → (p slot : ℕ) (v : Value) →
    IsSomeAnd (finite.get (live_of one) p) (λ x. IsTrue (may_store (meaning_of schema) x.class slot v)) →
    IfSome (finite.get (live_of one) p) (λ x. live_of (option_map (λ (o : One). record { class = o.class; meta = int_or (pos 0) (stored (Prim prim.Int) v) }) one) ≡ finite.insert (live_of one) p (with_slot (meaning_of schema) x slot v))
set_leaves schema sys None created p slot v has = absurd (none_has (λ x. IsTrue (may_store (meaning_of schema) x.class slot v)) p has)
set_leaves schema sys (Some o) created p slot v has =
    let P : Object → Type 0 = λ x. IsTrue (may_store (meaning_of schema) x.class slot v) in
    let zero_is : p ≡ 0 = at_zero o p (is_some_of (P) (finite.get (live_of (Some o)) p) has) in
    let may : may_store (meaning_of schema) o.class slot v ≡ true = holds (P) o p has in
    let slot_is : slot ≡ 0 = property_is schema sys o created slot (property_of (slot_type (meaning_of schema) o.class slot) v may) in
    let goes : goes_to (Prim prim.Int) v ≡ true =
    sym (ap (λ (n : ℕ). option_map_or (λ t. goes_to t v) (slot_type (meaning_of schema) o.class n) false) slot_is ∙ ap (λ (t : Option SlotType). option_map_or (λ t. goes_to t v) t false) (type_is schema sys o.class created)) ∙ may in
    let n : ℤ = int_or (pos 0) (stored (Prim prim.Int) v) in
    let new : One = record { class = o.class; meta = n } in
    told (λ x. live_of (Some new) ≡ finite.insert (live_of (Some o)) p (with_slot (meaning_of schema) x slot v)) o p zero_is
    (replaced o new p zero_is ∙ ap (finite.insert (live_of (Some o)) p) (sym (meta_stored schema sys o created slot slot_is v n (stored_is v goes (pos 0)))))

-- the component as it is seen, with another `meta`
pub seen_meta : {C : Type 0} (f : C → One) (one : Option C) → option_map_or (λ (o : One). kept.Int o.meta) (option_map f one) kept.Nothing ≡ option_map_or (λ (c : C). kept.Int (f c).meta) one kept.Nothing
seen_meta f None = refl
seen_meta f (Some c) = refl

pub seen_change : {C D : Type 0} (f : D → One) (g : C → D) (h : One → One) (k : C → One) → ((c : C) → f (g c) ≡ h (k c)) → (one : Option C) → option_map f (option_map g one) ≡ option_map h (option_map k one)
seen_change f g h k e None = refl
seen_change f g h k e (Some c) = ap (λ (o : One). Some o) (e c)

-- ---- objects and root calls

-- what is live may be kept
pub objects_are : (schema : Schema) → IsSys schema → (one : Option One) → IsCreated one → KeepsInt one → (p : ℕ) → IfSome (finite.get (live_of one) p) (IsObject (meaning_of schema))
objects_are schema sys None created int p = subst (λ (r : Option Object). IfSome r (IsObject (meaning_of schema))) (sym (get_none p)) tt
objects_are schema sys (Some o) created int p = subst (λ (r : Option Object). IfSome r (IsObject (meaning_of schema))) (sym (get_one o p)) (go (p == 0))
  where
    go : (b : Bool) → IfSome (cond b (Some (object_of o)) None) (IsObject (meaning_of schema))
    go true = record { creatable = created_may schema sys o.class created; fits = one_fits o created int }
    go false = tt

-- an engine that masks a code answers as the code does what may be asked
abbrev pub Answers : Schema → Type 0
Answers schema = (q : Question) → MayAsk (code_of schema) q → (meaning_of schema).root q ≡ (code_of schema).root q

-- a root call on the object that is live, which does nothing
pub asked_one : (schema : Schema) → IsSys schema → (o : One) → IsCreated (Some o) → KeepsInt (Some o) → (which : Root) (argument : Value) (turns : ℕ) (moment : ℤ) → may_call (code_of schema) o.class which argument ≡ true →
    1 ≤ turns → turns ≤ 1000000 → is_signed w64 moment ≡ true → MayAsk (code_of schema) (asked_of (object_of o) [] which argument turns moment)
asked_one schema sys o created int which argument turns moment may some most long = may_then (code_of schema) (asked_of (object_of o) [] which argument turns moment) (record {
  creatable = created_may schema sys o.class created;
  contents = one_fits o created int;
  statics = record { paths = refl; values = refl };
  argument = may;
  some_turns = some;
  most_turns = most;
  moment = long;
})

-- what a call that does nothing answers and leaves
pub record DoesNothing (schema : Schema) (live : Places) (p : ℕ) (which : Root) (argument : Value) (turns : ℕ) (moment : ℤ) : Type 0 where
  pub end : IfSome (finite.get live p) (λ x. Done turns ≡ (root_of (meaning_of schema) x [] which argument turns moment).end)
  pub left : IfSome (finite.get live p) (λ x. live ≡ finite.insert live p (called x (root_of (meaning_of schema) x [] which argument turns moment)))
  pub statics : IfSome (finite.get live p) (λ x. [] ≡ (root_of (meaning_of schema) x [] which argument turns moment).statics)

pub call_leaves : (h : Held) → Answers h.schema → IsSys h.schema → IsCreated h.one → KeepsInt h.one → (p : ℕ) (which : Root) (argument : Value) (turns : ℕ) (moment : ℤ) →
    1 ≤ turns → turns ≤ 1000000 → is_signed w64 moment ≡ true →
    IsSomeAnd (finite.get (live_of h.one) p) (λ x. IsTrue (may_call (meaning_of h.schema) x.class which argument)) → DoesNothing h.schema (live_of h.one) p which argument turns moment
call_leaves h answers sys created int p which argument turns moment some most long has = go h.one created int has
  where
    go : (one : Option One) → IsCreated one → KeepsInt one → IsSomeAnd (finite.get (live_of one) p) (λ x. IsTrue (may_call (meaning_of h.schema) x.class which argument)) →
        DoesNothing h.schema (live_of one) p which argument turns moment
    go None created int has = absurd (none_has (λ x. IsTrue (may_call (meaning_of h.schema) x.class which argument)) p has)
    go (Some o) created int has =
        let P : Object → Type 0 = λ x. IsTrue (may_call (meaning_of h.schema) x.class which argument) in
        let zero_is : p ≡ 0 = at_zero o p (is_some_of P (finite.get (live_of (Some o)) p) has) in
        let done : root_of (meaning_of h.schema) (object_of o) [] which argument turns moment ≡ record { contents = (object_of o).contents; statics = []; end = Done turns } =
        answers (asked_of (object_of o) [] which argument turns moment) (asked_one h.schema sys o created int which argument turns moment (holds P o p has) some most long) in
        record {
          end = told (λ x. Done turns ≡ (root_of (meaning_of h.schema) x [] which argument turns moment).end) o p zero_is (ap (λ (a : RootEnd). a.end) (sym done));
          left = told (λ x. live_of (Some o) ≡ finite.insert (live_of (Some o)) p (called x (root_of (meaning_of h.schema) x [] which argument turns moment))) o p zero_is
              (put_again (live_of (Some o)) p (object_of o) (one_has o p zero_is) ∙ ap (λ (a : RootEnd). finite.insert (live_of (Some o)) p (called (object_of o) a)) (sym done));
          statics = told (λ x. [] ≡ (root_of (meaning_of h.schema) x [] which argument turns moment).statics) o p zero_is (ap (λ (a : RootEnd). a.statics) (sym done));
        }
