-- The code of `sys` alone is whole, and the one object is one that may be kept.
use Rattle.std.proofs.Common.{◌≡◌, inl, inr, ℕ, zero, suc, ◌+◌, ◌<◌, ◌≤◌, ◌==◌, ◌&&◌, ◌||◌, Bool, true, false, cond, if◌then◌else◌, List, [], ◌∷◌, length, pos, Some, None, refl, sym, ap, subst, lit≤, lit<, arith}
use Rattle.std.specs.Prelude.{◌^◌, IfSome, IsSome, IsSomeAnd, IsTrue, All, slice_get, count_by, codes}
use Rattle.std.specs.Int.{w32}
use Rattle.std.proofs.lemmas.Bool.{and_from, cases_eq}
use Rattle.std.proofs.lemmas.Bool.Decides.{nat_tests}
use Rattle.std.proofs.lemmas.List.Elements.{All-nil, All-cons}
use Rattle.std.proofs.lemmas.List.Sums.{count_by-le-length, sum_by-cons}
use Rattle.sed_value.specs.Names.{is_kit_name}
use Rattle.sed_value.specs.Value.{is_signed}
use Rattle.sed_value.specs.declared.kit.KitRef.{KitRef}
use Rattle.sed_typed.specs.declared.schema.ClassInfo.{ClassInfo}
use Rattle.sed_typed.specs.declared.schema.Schema.{Schema}
use Rattle.sed_typed.specs.declared.schema.SlotInfo.{SlotInfo}
use Rattle.sed_engine.proofs.Asking.{Asked, may_from}
use Rattle.sed_typed.specs.Classes.{base_of}
use Rattle.sed_typed.specs.Contents.{value_at}
use Rattle.sed_typed.specs.Sizes.{config_size, runtime_size}
use Rattle.sed_typed.specs.Spelled.{CanBeTold}
use Rattle.sed_typed.specs.TypedSchema.{types_at}
use Rattle.sed_engine.specs.Asked.{MayAsk}
use Rattle.sed_engine.specs.Code.{Meaning, Question, is_creatable, slot_type, slot_path}
use Rattle.sed_engine.specs.Fits.{Fits, form_at}
use Rattle.sed_engine.specs.Whole.{AnswersWell, HasTables, HasBufSize, KeepsLimits, NamesTypes, MarksComponents, HasSysTypes, FollowsBase, SaysNothing, field_form, meta_slot, save_slot}
use Rattle.tiny_engine.specs.Sys.{sys_classes, sys_kits}
use Rattle.tiny_engine.specs.Tiny.{One, code_of, meta_is, has_meta, sys_fields, sys_initial, IsCreated, IsSys, KeepsInt}
use Rattle.std.proofs.lemmas.Option.{same_Some as some_is}

abbrev sys_schema : Schema
sys_schema = record { kits = sys_kits; classes = sys_classes }

abbrev code : Meaning
code = code_of sys_schema

schema_is : (schema : Schema) → IsSys schema → sys_schema ≡ schema
schema_is schema sys = sym (λ i. record { kits = sys.kits i; classes = sys.classes i })

no : {P : Type 0} {A : Type 0} (x : A) → None ≡ Some x → P
no x e = let never : ⊥ = cc in absurd never

-- what holds of each of the five classes holds of all
all_five : (P : ClassInfo → Type 0) → ((n : ℕ) → IfSome (slice_get sys_classes n) P) → All P sys_classes
all_five P h zero d w = h 0
all_five P h (suc zero) d w = h 1
all_five P h (suc (suc zero)) d w = h 2
all_five P h (suc (suc (suc zero))) d w = h 3
all_five P h (suc (suc (suc (suc zero)))) d w = h 4
all_five P h (suc (suc (suc (suc (suc n))))) d w = absurd (omega arith)

-- ---- the schema

meta_alone : All (λ s. HasBufSize s.form) (meta_slot ∷ [])
meta_alone = All-cons (λ (s : SlotInfo). HasBufSize s.form) meta_slot [] tt (All-nil (λ (s : SlotInfo). HasBufSize s.form))

meta_and_save : All (λ s. HasBufSize s.form) (meta_slot ∷ save_slot ∷ [])
meta_and_save =
    All-cons (λ (s : SlotInfo). HasBufSize s.form) meta_slot (save_slot ∷ []) tt (All-cons (λ (s : SlotInfo). HasBufSize s.form) save_slot [] tt (All-nil (λ (s : SlotInfo). HasBufSize s.form)))

limits : KeepsLimits sys_schema
limits = record {
  kits = lit≤ tt;
  types = λ kit. let h : count_by (λ c. c.kit == kit) sys_classes ≤ 5 = count_by-le-length (λ c. c.kit == kit) sys_classes in omega (arith, h);
  slots = all_five (λ c. length c.slots ≤ 64) slots_few;
  bufs = all_five (λ c. All (λ s. HasBufSize s.form) c.slots) bufs_small;
  sizes = all_five (λ c. c.size < 65536) sizes_few;
  config = all_five (λ c. config_size c.slots ≤ 400) config_few;
  runtime = all_five (λ c. runtime_size c.slots ≤ 400) runtime_few;
}
  where
    slots_few : (n : ℕ) → IfSome (slice_get sys_classes n) (λ c. length c.slots ≤ 64)
    slots_few zero = lit≤ tt
    slots_few (suc zero) = lit≤ tt
    slots_few (suc (suc zero)) = lit≤ tt
    slots_few (suc (suc (suc zero))) = lit≤ tt
    slots_few (suc (suc (suc (suc zero)))) = lit≤ tt
    slots_few (suc (suc (suc (suc (suc n))))) = tt

    bufs_small : (n : ℕ) → IfSome (slice_get sys_classes n) (λ c. All (λ s. HasBufSize s.form) c.slots)
    bufs_small zero = All-nil (λ (s : SlotInfo). HasBufSize s.form)
    bufs_small (suc zero) = All-nil (λ (s : SlotInfo). HasBufSize s.form)
    bufs_small (suc (suc zero)) = meta_alone
    bufs_small (suc (suc (suc zero))) = meta_and_save
    bufs_small (suc (suc (suc (suc zero)))) = meta_alone
    bufs_small (suc (suc (suc (suc (suc n))))) = tt

    sizes_few : (n : ℕ) → IfSome (slice_get sys_classes n) (λ c. c.size < 65536)
    sizes_few zero = lit< tt
    sizes_few (suc zero) = lit< tt
    sizes_few (suc (suc zero)) = lit< tt
    sizes_few (suc (suc (suc zero))) = lit< tt
    sizes_few (suc (suc (suc (suc zero)))) = lit< tt
    sizes_few (suc (suc (suc (suc (suc n))))) = tt

    config_few : (n : ℕ) → IfSome (slice_get sys_classes n) (λ c. config_size c.slots ≤ 400)
    config_few zero = lit≤ tt
    config_few (suc zero) = lit≤ tt
    config_few (suc (suc zero)) = lit≤ tt
    config_few (suc (suc (suc zero))) = lit≤ tt
    config_few (suc (suc (suc (suc zero)))) = lit≤ tt
    config_few (suc (suc (suc (suc (suc n))))) = tt

    runtime_few : (n : ℕ) → IfSome (slice_get sys_classes n) (λ c. runtime_size c.slots ≤ 400)
    runtime_few zero = lit≤ tt
    runtime_few (suc zero) = lit≤ tt
    runtime_few (suc (suc zero)) = lit≤ tt
    runtime_few (suc (suc (suc zero))) = lit≤ tt
    runtime_few (suc (suc (suc (suc zero)))) = lit≤ tt
    runtime_few (suc (suc (suc (suc (suc n))))) = tt

-- classes whose numbers ascend from one on
abbrev Ascend : ℕ → List ClassInfo → Type 0
Ascend k [] = Unit {0}
Ascend k (c ∷ cs) = (k ≤ c.number) × Ascend (suc c.number) cs

bit : ℕ → ℕ → ClassInfo → ℕ
bit kit number c = cond ((c.kit == kit) && (c.number == number)) 1 0

not_it : (a : Bool) (n m : ℕ) → n < m → cond (a && (m == n)) 1 (zero) ≡ 0
not_it true n m h = let e : (m == n) ≡ false = grind (arith, nat_tests, h) in ap (λ (b : Bool). cond b 1 (zero)) e
not_it false n m h = refl

none_before : (cs : List ClassInfo) (kit number k : ℕ) → Ascend k cs → number < k → types_at cs kit number ≡ 0
unfolding bit
none_before [] kit number k h less = refl
none_before (c ∷ cs) kit number k h less =
    let far : number < c.number = omega (arith, less, h.0) in
    let first : bit kit number c ≡ 0 = not_it (c.kit == kit) number c.number far in
    let rest : types_at cs kit number ≡ 0 = none_before cs kit number (suc c.number) h.1 (omega (arith, far)) in
    let all : types_at (c ∷ cs) kit number ≡ bit kit number c + types_at cs kit number = sum_by-cons (bit kit number) c cs in
    omega (arith, first, rest, all)

at_most_bit : (a : Bool) → cond a 1 (zero) ≤ 1
at_most_bit true = omega arith
at_most_bit false = omega arith

off : (a : Bool) (n m : ℕ) → (m ≡ n → ⊥) → cond (a && (m == n)) 1 (zero) ≡ 0
off true n m h = let e : (m == n) ≡ false = ne_is m n h in ap (λ (b : Bool). cond b 1 (zero)) e
  where
    ne_is : (m n : ℕ) → (m ≡ n → ⊥) → (m == n) ≡ false
    ne_is m n h = grind (arith, nat_tests, h)
off false n m h = refl

once_in : (cs : List ClassInfo) (kit number k : ℕ) → Ascend k cs → types_at cs kit number ≤ 1
unfolding bit
once_in [] kit number k h = omega arith
once_in (c ∷ cs) kit number k h =
    let all : types_at (c ∷ cs) kit number ≡ bit kit number c + types_at cs kit number = sum_by-cons (bit kit number) c cs in
    elim (cases_eq c.number number) [
      | inl e ↦
          let rest : types_at cs kit number ≡ 0 = none_before cs kit number (suc c.number) h.1 (omega (arith, e)) in
          let most : bit kit number c ≤ 1 = at_most_bit ((c.kit == kit) && (c.number == number)) in
          omega (arith, all, rest, most)
      | inr ne ↦
          let first : bit kit number c ≡ 0 = off (c.kit == kit) number c.number ne in
          let rest : types_at cs kit number ≤ 1 = once_in cs kit number (suc c.number) h.1 in
          omega (arith, all, first, rest)
    ]

sys_types : HasSysTypes sys_classes
sys_types = record {
  five = refl;
  object = record { name_is = refl; base_is = refl; is_abstract = refl; is_component = refl; size_is = refl; slots = refl };
  virtual = record { name_is = refl; base_is = refl; is_abstract = refl; is_component = refl; size_is = refl; slots = refl };
  component = record { name_is = refl; base_is = refl; is_abstract = refl; is_component = refl; size_is = refl; slots = refl };
  app = record { name_is = refl; base_is = refl; is_abstract = refl; is_component = refl; size_is = refl; slots = refl };
  folder = record { name_is = refl; base_is = refl; is_abstract = refl; is_component = refl; size_is = refl; slots = refl };
}

names : NamesTypes sys_schema
names = record {
  sys = refl;
  known = all_five (λ c. c.kit < 1) known;
  once = λ kit number. once_in sys_classes kit number 0 (lit≤ tt, (lit≤ tt, (lit≤ tt, (lit≤ tt, (lit≤ tt, tt)))));
  types = sys_types;
}
  where
    known : (n : ℕ) → IfSome (slice_get sys_classes n) (λ c. c.kit < 1)
    known zero = lit< tt
    known (suc zero) = lit< tt
    known (suc (suc zero)) = lit< tt
    known (suc (suc (suc zero))) = lit< tt
    known (suc (suc (suc (suc zero)))) = lit< tt
    known (suc (suc (suc (suc (suc n))))) = tt

no_mark : {P : Type 0} → false ≡ true → P
no_mark e = let never : ⊥ = cc in absurd never

components : (class : ℕ) → IfSome (slice_get sys_classes class) (MarksComponents sys_schema class)
components zero = record { marked = refl; meta = no_mark }
components (suc zero) = record { marked = refl; meta = no_mark }
components (suc (suc zero)) = record { marked = refl; meta = λ e. refl }
components (suc (suc (suc zero))) = record { marked = refl; meta = λ e. refl }
components (suc (suc (suc (suc zero)))) = record { marked = refl; meta = λ e. refl }
components (suc (suc (suc (suc (suc n))))) = tt

-- ---- what a file tells

alone : (P : KitRef → Type 0) → P (record { name = codes "sys"; checksum = pos 0 }) → All P sys_kits
alone P h = All-cons P (record { name = codes "sys"; checksum = pos 0 }) [] h (All-nil P)

told : CanBeTold sys_schema
told = record {
  names = alone (λ kit. IsTrue (is_kit_name kit.name)) refl;
  checksums = alone (λ kit. IsTrue (is_signed w32 kit.checksum)) refl;
  numbers = all_five (λ c. c.number < 2 ^ 8) numbers_small;
}
  where
    numbers_small : (n : ℕ) → IfSome (slice_get sys_classes n) (λ c. c.number < 2 ^ 8)
    numbers_small zero = lit< tt
    numbers_small (suc zero) = lit< tt
    numbers_small (suc (suc zero)) = lit< tt
    numbers_small (suc (suc (suc zero))) = lit< tt
    numbers_small (suc (suc (suc (suc zero)))) = lit< tt
    numbers_small (suc (suc (suc (suc (suc n))))) = tt

pub sys_told : (schema : Schema) → IsSys schema → CanBeTold schema
sys_told schema sys = subst CanBeTold (schema_is schema sys) told

-- ---- classes

-- the slot of `meta` is that of the base
inherited : (b : Bool) → IfSome (if b then Some 0 else None) (λ (i : ℕ). (if b then Some 0 else None) ≡ Some i)
inherited true = refl
inherited false = tt

bases : (class base : ℕ) → base_of sys_classes class ≡ Some base → FollowsBase code class base
bases zero base e = no base e
bases (suc zero) base e = subst (FollowsBase code 1) (some_is 0 base e) (record { before = lit< tt; slots = ([], refl); fields = ([], refl); slot_fields = λ n. tt })
bases (suc (suc zero)) base e = subst (FollowsBase code 2) (some_is 1 base e) (record { before = lit< tt; slots = (_, refl); fields = (_, refl); slot_fields = λ n. tt })
bases (suc (suc (suc zero))) base e = subst (FollowsBase code 3) (some_is 2 base e) (record { before = lit< tt; slots = (_, refl); fields = ([], refl); slot_fields = λ n. inherited (n == 0) })
bases (suc (suc (suc (suc zero)))) base e = subst (FollowsBase code 4) (some_is 2 base e) (record { before = lit< tt; slots = ([], refl); fields = ([], refl); slot_fields = λ n. inherited (n == 0) })
bases (suc (suc (suc (suc (suc n))))) base e = no base e

sizes : (class : ℕ) → IfSome (slice_get sys_classes class) (λ c. code.data_size class ≡ c.size)
sizes zero = refl
sizes (suc zero) = refl
sizes (suc (suc zero)) = refl
sizes (suc (suc (suc zero))) = refl
sizes (suc (suc (suc (suc zero)))) = refl
sizes (suc (suc (suc (suc (suc n))))) = tt

slot_fields : (class n : ℕ) → IfSome (slot_type code class n) (λ t. IsSomeAnd (code.slot_field class n) (λ i. form_at (code.fields class) i ≡ Some (field_form t)))
slot_fields zero n = tt
slot_fields (suc zero) n = tt
slot_fields (suc (suc zero)) zero = refl
slot_fields (suc (suc zero)) (suc n) = tt
slot_fields (suc (suc (suc zero))) zero = refl
slot_fields (suc (suc (suc zero))) (suc zero) = tt
slot_fields (suc (suc (suc zero))) (suc (suc n)) = tt
slot_fields (suc (suc (suc (suc zero)))) zero = refl
slot_fields (suc (suc (suc (suc zero)))) (suc n) = tt
slot_fields (suc (suc (suc (suc (suc m))))) n = tt

-- beyond the five there is nothing
none_beyond : (class : ℕ) → 5 ≤ class → has_meta class ≡ false
none_beyond class h = grind (arith, nat_tests, h)

no_slot : (n : ℕ) → (suc n == 0) ≡ false
no_slot n = grind arith

no_fields : (class n : ℕ) → slot_type code class n ≡ None → code.slot_field class n ≡ None
no_fields zero n e = refl
no_fields (suc zero) n e = refl
no_fields (suc (suc zero)) zero e = no _ (sym e)
no_fields (suc (suc zero)) (suc n) e = ap (λ (b : Bool). if b then Some 0 else None) (no_slot n)
no_fields (suc (suc (suc zero))) zero e = no _ (sym e)
no_fields (suc (suc (suc zero))) (suc n) e = ap (λ (b : Bool). if b then Some 0 else None) (no_slot n)
no_fields (suc (suc (suc (suc zero)))) zero e = no _ (sym e)
no_fields (suc (suc (suc (suc zero)))) (suc n) e = ap (λ (b : Bool). if b then Some 0 else None) (no_slot n)
no_fields (suc (suc (suc (suc (suc m))))) n e = ap (λ (b : Bool). if b && (n == 0) then Some 0 else None) (none_beyond (suc (suc (suc (suc (suc m))))) (omega arith))

values : (class n : ℕ) → IfSome (slot_type code class n) (λ t. IsSome (value_at (code.initial class) (slot_path code class n)))
values zero n = tt
values (suc zero) n = tt
values (suc (suc zero)) zero = refl
values (suc (suc zero)) (suc n) = tt
values (suc (suc (suc zero))) zero = refl
values (suc (suc (suc zero))) (suc zero) = tt
values (suc (suc (suc zero))) (suc (suc n)) = tt
values (suc (suc (suc (suc zero)))) zero = refl
values (suc (suc (suc (suc zero)))) (suc n) = tt
values (suc (suc (suc (suc (suc m))))) n = tt

first : (class : ℕ) → class < 5 → Fits code.fields (code.fields class) (code.initial class) (code.initial class)
first zero h = record { paths = refl; values = refl }
first (suc zero) h = record { paths = refl; values = refl }
first (suc (suc zero)) h = record { paths = refl; values = refl }
first (suc (suc (suc zero))) h = record { paths = refl; values = refl }
first (suc (suc (suc (suc zero)))) h = record { paths = refl; values = refl }
first (suc (suc (suc (suc (suc n))))) h = absurd (omega arith)

beyond : (class : ℕ) → 5 ≤ class → SaysNothing code class
beyond class h = record {
  fields = ap (λ (b : Bool). if b then sys_fields 2 else []) (none_beyond class h);
  initial = ap (λ (b : Bool). if b then sys_initial 2 else []) (none_beyond class h);
  size = ap (λ (b : Bool). if b then 4 else 0) (none_beyond class h);
}

tables : HasTables code
tables = record {
  limits = limits;
  names = names;
  components = components;
  bases = bases;
  sizes = sizes;
  slot_fields = slot_fields;
  no_fields = no_fields;
  values = values;
  first = first;
  first_statics = record { paths = refl; values = refl };
  beyond = beyond;
}

pub sys_tables : (schema : Schema) → IsSys schema → HasTables (code_of schema)
sys_tables schema sys = subst (λ (s : Schema). HasTables (code_of s)) (schema_is schema sys) tables

-- ---- root calls

pub sys_answers : (schema : Schema) (q : Question) → MayAsk (code_of schema) q → AnswersWell (code_of schema) q
sys_answers schema q h = let a : Asked (code_of schema) q = may_from (code_of schema) q h in record { contents = a.contents; statics = a.statics; end = omega arith }

-- ---- the one object

pub created_has : (n : ℕ) → ((n == 3) || (n == 4)) ≡ true → has_meta n ≡ true
created_has n h = grind (arith, nat_tests)

may_create : (n : ℕ) → ((n == 3) || (n == 4)) ≡ true → is_creatable code n ≡ true
may_create n h = elim (cases_eq n 3) [
  | inl e ↦ ap (is_creatable code) e
  | inr ne ↦ let e : n ≡ 4 = grind (arith, nat_tests) in ap (is_creatable code) e
]

pub created_may : (schema : Schema) → IsSys schema → (n : ℕ) → ((n == 3) || (n == 4)) ≡ true → is_creatable (code_of schema) n ≡ true
created_may schema sys n h = subst (λ (s : Schema). is_creatable (code_of s) n ≡ true) (schema_is schema sys) (may_create n h)

pub one_fits : (o : One) → IsCreated (Some o) → KeepsInt (Some o) → Fits sys_fields (sys_fields o.class) (sys_initial o.class) (meta_is o.meta)
one_fits o created int =
    subst (λ (b : Bool). Fits sys_fields (if b then sys_fields 2 else []) (if b then sys_initial 2 else []) (meta_is o.meta)) (sym (created_has o.class created))
    (record { paths = refl; values = and_from (is_signed w32 o.meta) true int refl })
