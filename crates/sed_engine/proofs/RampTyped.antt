-- The program of the ramp is typed, so its code is whole.
use Rattle.std.proofs.Common.{◌≡◌, pos, ◌<◌, ◌≤◌, ◌==◌, ℕ, zero, suc, Bool, true, false, [], ◌∷◌, List, map, Some, None, refl, ap, lit<, lit≤, arith, cond, ◌+◌, ◌∙◌, codes}
use Rattle.std.specs.Prelude.{length, All, IfSome, IsSomeAnd, IsTrue, count_by, slice_get}
use Rattle.std.specs.List.Sorted.{IsStrictlyIncreasing}
use Rattle.sed_value.specs.Names.{is_kit_name}
use Rattle.std.proofs.lemmas.Bool.Decides.{nat_tests}
use Rattle.std.proofs.lemmas.List.Sums.{count_by-le-length, sum_by-cons}
use Rattle.sed_value.specs.declared.value.Value.TheVariants as kept
use Rattle.sed_typed.specs.declared.kind.Kind.TheVariants as kind
use Rattle.sed_value.specs.declared.kit.KitRef.{KitRef}
use Rattle.sed_typed.specs.declared.number.TypeNo.{TypeNo}
use Rattle.sed_typed.specs.declared.schema.SlotInfo.{SlotInfo}
use Rattle.std.specs.Str.{bytes_eq}
use Rattle.sed_typed.specs.declared.program.Field.{Field}
use Rattle.sed_typed.specs.declared.program.Method.{Method}
use Rattle.sed_typed.specs.declared.program.Program.{Program}
use Rattle.sed_typed.specs.declared.schema.ClassInfo.{ClassInfo}
use Rattle.sed_typed.specs.declared.statement.Stmt.{Stmt}
use Rattle.sed_typed.specs.Classes.{base_of, find, fields, slots as slots_of, method_name}
use Rattle.sed_typed.specs.SysMembers.{HasSysMembers}
use Rattle.sed_typed.specs.SysTypes.{HasSysTypes, virtual_type}
use Rattle.sed_typed.specs.TypedSchema.{HasKits, IsClass, HasSlot, HasSlots, IsAdded, added_slots, IsField, HasMembers, Overrides, LiesDeeper, is_below_sys, types_of, types_at}
use Rattle.sed_typed.specs.Typed.{Typed, IsMethod, IsBody, IsStorable, HasBodies, IsText}
use Rattle.sed_engine.specs.declared.call.Root.TheVariants.{Execute}
use Rattle.sed_engine.specs.Asked.{MayAsk}
use Rattle.sed_engine.specs.Code.{Question, asked_of, new_object}
use Rattle.sed_engine.specs.Program.{meaning_of}
use Rattle.sed_engine.specs.Whole.{EndsWell, IsWhole}
use Rattle.sed_engine.proofs.Asking.{may_then}
use Rattle.sed_engine.proofs.Building.{Pointer}
use Rattle.sed_engine.proofs.FieldLists.{of_fields}
use Rattle.sed_engine.proofs.TypedCodes.{whole_of}
use Rattle.sed_engine.proofs.MemberNames.{Each, all_of, distinct, once_each, named_once, names_new, names_apart}
use Rattle.sed_engine.proofs.Ramp.{nothing, adding, void_method, changed_method, meta_field, step_field, out_field, ramp}

-- ---- kits

sys_types : (p : Pointer) → HasSysTypes (ramp p).schema.classes
sys_types p = record {
  five = refl;
  object = record { name_is = refl; base_is = refl; is_abstract = refl; is_component = refl; size_is = refl; slots = refl };
  virtual = record { name_is = refl; base_is = refl; is_abstract = refl; is_component = refl; size_is = refl; slots = refl };
  component = record { name_is = refl; base_is = refl; is_abstract = refl; is_component = refl; size_is = refl; slots = refl };
  app = record { name_is = refl; base_is = refl; is_abstract = refl; is_component = refl; size_is = refl; slots = refl };
  folder = record { name_is = refl; base_is = refl; is_abstract = refl; is_component = refl; size_is = refl; slots = refl };
}

-- no class is of a kit past all
pub no_types : (n kit : ℕ) → n ≤ kit → (all : List ClassInfo) → All (λ c. c.kit < n) all → types_of all kit ≡ 0
no_types n kit past [] known = refl
no_types n kit past (c ∷ cs) known =
    let below : c.kit < n = known 0 c (omega arith) in
    let other : (c.kit == kit) ≡ false = grind (arith, nat_tests, past, below) in
    let one : ClassInfo → ℕ = λ x. cond (x.kit == kit) 1 0 in
    let rest : types_of cs kit ≡ 0 = no_types n kit past cs (λ k d h. known (suc k) d (omega (arith, h))) in
    sum_by-cons one c cs ∙ ap (λ (b : Bool). cond b 1 0 + types_of cs kit) other ∙ omega (arith, rest)

known : (p : Pointer) → All (λ c. c.kit < 2) (ramp p).schema.classes
known p = all_of (λ c. c.kit < 2) (ramp p).schema.classes (lit< tt, (lit< tt, (lit< tt, (lit< tt, (lit< tt, (lit< tt, tt))))))

numbered : (p : Pointer) (kit number : ℕ) → number < types_of (ramp p).schema.classes kit → types_at (ramp p).schema.classes kit number ≡ 1
numbered p zero zero h = refl
numbered p zero (suc zero) h = refl
numbered p zero (suc (suc zero)) h = refl
numbered p zero (suc (suc (suc zero))) h = refl
numbered p zero (suc (suc (suc (suc zero)))) h = refl
numbered p zero (suc (suc (suc (suc (suc n))))) h = absurd (omega (arith, h))
numbered p (suc zero) zero h = refl
numbered p (suc zero) (suc n) h = absurd (omega (arith, h))
numbered p (suc (suc kit)) number h =
    let no : types_of (ramp p).schema.classes (suc (suc kit)) ≡ 0 = no_types 2 (suc (suc kit)) (omega arith) (ramp p).schema.classes (known p) in
    absurd (omega (arith, h, no))

kits : (p : Pointer) → HasKits (ramp p).schema
kits p = record {
  most = lit≤ tt;
  sys = refl;
  names = all_of (λ kit. IsTrue (is_kit_name kit.name)) (ramp p).schema.kits (refl, (refl, tt));
  names_once = named_once (λ (kit : KitRef). kit.name) (ramp p).schema.kits refl;
  known = known p;
  numbered = numbered p;
  types = λ kit. let h : types_of (ramp p).schema.classes kit ≤ 6 = count_by-le-length (λ c. c.kit == kit) (ramp p).schema.classes in omega (arith, h);
  sys_types = sys_types p;
}

-- ---- classes

-- a class before the App is not the App
pub not_app : (app n : ℕ) → n < app → Some app ≡ Some n → ⊥
not_app app n h e = let same : app ≡ n = cc in omega (arith, h, same)

pub has_base_of : {P : Type 0} (t : TypeNo) → Some t ≡ None → P
has_base_of t e = let never : ⊥ = cc in absurd never

class_is : (p : Pointer) (class : ℕ) → IfSome (slice_get (ramp p).schema.classes class) (IsClass (ramp p) class)
class_is p zero = record {
  name_free = refl;
  name_once = refl;
  based = λ e. (refl, refl);
  base = tt;
  component = refl;
  size = refl;
  size_most = lit< tt;
  slots_most = lit≤ tt;
  config_most = lit≤ tt;
  runtime_most = lit≤ tt;
}
class_is p (suc zero) = record {
  name_free = refl;
  name_once = refl;
  based = has_base_of _;
  base = record { before = lit< tt; no_app = not_app 3 0 (lit< tt); slots = ([], refl); size = lit≤ tt };
  component = refl;
  size = refl;
  size_most = lit< tt;
  slots_most = lit≤ tt;
  config_most = lit≤ tt;
  runtime_most = lit≤ tt;
}
class_is p (suc (suc zero)) = record {
  name_free = refl;
  name_once = refl;
  based = has_base_of _;
  base = record { before = lit< tt; no_app = not_app 3 1 (lit< tt); slots = (_, refl); size = lit≤ tt };
  component = refl;
  size = refl;
  size_most = lit< tt;
  slots_most = lit≤ tt;
  config_most = lit≤ tt;
  runtime_most = lit≤ tt;
}
class_is p (suc (suc (suc zero))) = record {
  name_free = refl;
  name_once = refl;
  based = has_base_of _;
  base = record { before = lit< tt; no_app = not_app 3 2 (lit< tt); slots = (_, refl); size = lit≤ tt };
  component = refl;
  size = refl;
  size_most = lit< tt;
  slots_most = lit≤ tt;
  config_most = lit≤ tt;
  runtime_most = lit≤ tt;
}
class_is p (suc (suc (suc (suc zero)))) = record {
  name_free = refl;
  name_once = refl;
  based = has_base_of _;
  base = record { before = lit< tt; no_app = not_app 3 2 (lit< tt); slots = ([], refl); size = lit≤ tt };
  component = refl;
  size = refl;
  size_most = lit< tt;
  slots_most = lit≤ tt;
  config_most = lit≤ tt;
  runtime_most = lit≤ tt;
}
class_is p (suc (suc (suc (suc (suc zero))))) = record {
  name_free = refl;
  name_once = refl;
  based = has_base_of _;
  base = record { before = lit< tt; no_app = not_app 3 2 (lit< tt); slots = (_, refl); size = lit≤ tt };
  component = refl;
  size = refl;
  size_most = lit< tt;
  slots_most = lit≤ tt;
  config_most = lit≤ tt;
  runtime_most = lit≤ tt;
}
class_is p (suc (suc (suc (suc (suc (suc n)))))) = tt

-- ---- slots

each_slot : (p : Pointer) (class n : ℕ) → IfSome (slice_get (slots_of (ramp p).schema.classes class) n) (λ s. HasSlot (ramp p) class n s s.form)
each_slot p zero n = tt
each_slot p (suc zero) n = tt
each_slot p (suc (suc zero)) zero = (meta_field, refl, (refl, refl))
each_slot p (suc (suc zero)) (suc n) = tt
each_slot p (suc (suc (suc zero))) zero = (meta_field, refl, (refl, refl))
each_slot p (suc (suc (suc zero))) (suc zero) = (refl, (refl, refl, refl, refl), refl)
each_slot p (suc (suc (suc zero))) (suc (suc n)) = tt
each_slot p (suc (suc (suc (suc zero)))) zero = (meta_field, refl, (refl, refl))
each_slot p (suc (suc (suc (suc zero)))) (suc n) = tt
each_slot p (suc (suc (suc (suc (suc zero))))) zero = (meta_field, refl, (refl, refl))
each_slot p (suc (suc (suc (suc (suc zero))))) (suc zero) = (step_field, refl, (refl, refl))
each_slot p (suc (suc (suc (suc (suc zero))))) (suc (suc zero)) = (out_field, refl, (refl, refl))
each_slot p (suc (suc (suc (suc (suc zero))))) (suc (suc (suc n))) = tt
each_slot p (suc (suc (suc (suc (suc (suc c)))))) n = tt

-- a field that is a property has one of so many slots
abbrev pub InSlots : ℕ → Field → Type 0
InSlots n f = IfSome f.slot (λ s. s.0 < n)

pub none_below : {P : Type 0} → 0 < 0 → P
none_below h = absurd (omega (arith, h))

slot_names : (p : Pointer) (class : ℕ) → distinct (map (λ (s : SlotInfo). s.name) (slots_of (ramp p).schema.classes class)) ≡ true →
    (name : List ℕ) → count_by (λ s. bytes_eq s.name name) (slots_of (ramp p).schema.classes class) ≤ 1
slot_names p class h = named_once (λ (s : SlotInfo). s.name) (slots_of (ramp p).schema.classes class) h

adds : (p : Pointer) (class : ℕ) → Each (λ s. IsAdded (ramp p) class s s.form) (added_slots (ramp p).schema.classes class) → All (λ s. IsAdded (ramp p) class s s.form) (added_slots (ramp p).schema.classes class)
adds p class h = all_of (λ (s : SlotInfo). IsAdded (ramp p) class s s.form) (added_slots (ramp p).schema.classes class) h

-- at most two numbers that rise
pub none_rise : IsStrictlyIncreasing []
none_rise k h = let none : k + 1 < 0 = h in absurd (omega (arith, none))

pub one_rises : (m : ℕ) → IsStrictlyIncreasing (m ∷ [])
one_rises m k h = let one : k + 1 < 1 = h in absurd (omega (arith, one))

two_rise : (m n : ℕ) → m < n → IsStrictlyIncreasing (m ∷ n ∷ [])
two_rise m n below zero h = below
two_rise m n below (suc k) h = let two : suc k + 1 < 2 = h in absurd (omega (arith, two))

has_slots : (p : Pointer) (class : ℕ) → IfSome (slice_get (ramp p).schema.classes class) (HasSlots (ramp p) class)
has_slots p zero = record { each = each_slot p 0; names = slot_names p 0 refl; added = adds p 0 tt; in_order = none_rise; components = none_below; within = all_of (InSlots 0) (fields (ramp p) 0) tt }
has_slots p (suc zero) = record { each = each_slot p 1; names = slot_names p 1 refl; added = adds p 1 tt; in_order = none_rise; components = none_below; within = all_of (InSlots 0) (fields (ramp p) 1) tt }
has_slots p (suc (suc zero)) = record { each = each_slot p 2; names = slot_names p 2 refl; added = adds p 2 (tt, tt); in_order = one_rises 0; components = λ h. refl; within = all_of (InSlots 1) (fields (ramp p) 2) (lit< tt, tt) }
has_slots p (suc (suc (suc zero))) = record { each = each_slot p 3; names = slot_names p 3 refl; added = adds p 3 ((refl, refl), tt); in_order = none_rise; components = λ h. refl; within = all_of (InSlots 2) (fields (ramp p) 3) (lit< tt, tt) }
has_slots p (suc (suc (suc (suc zero)))) = record { each = each_slot p 4; names = slot_names p 4 refl; added = adds p 4 tt; in_order = none_rise; components = λ h. refl; within = all_of (InSlots 1) (fields (ramp p) 4) (lit< tt, tt) }
has_slots p (suc (suc (suc (suc (suc zero))))) = record { each = each_slot p 5; names = slot_names p 5 refl; added = adds p 5 (tt, (tt, tt)); in_order = two_rise 1 2 (lit< tt); components = λ h. refl; within = all_of (InSlots 3) (fields (ramp p) 5) (lit< tt, (lit< tt, (lit< tt, tt))) }
has_slots p (suc (suc (suc (suc (suc (suc n)))))) = tt

-- ---- what `sys` declares

sys_is : (p : Pointer) (class : ℕ) → IfSome (slice_get (ramp p).schema.classes class) (λ info. info.kit ≡ 0 → HasSysMembers (ramp p) class info)
sys_is p zero = λ e. record { fields = refl; statics = refl; methods = tt }
sys_is p (suc zero) = λ e. record { fields = refl; statics = refl; methods = tt }
sys_is p (suc (suc zero)) = λ e. record { fields = refl; statics = refl; methods = (record { name_is = refl; form = (refl, refl, refl, refl); body = tt }, (record { name_is = refl; form = (refl, refl, refl, refl); body = tt }, (record { name_is = refl; form = (refl, refl, refl, refl); body = tt }, (record { name_is = refl; form = (refl, refl, refl, refl); body = tt }, tt)))) }
sys_is p (suc (suc (suc zero))) = λ e. record { fields = refl; statics = refl; methods = (record { name_is = refl; form = (refl, refl, refl, refl); body = tt }, tt) }
sys_is p (suc (suc (suc (suc zero)))) = λ e. record { fields = refl; statics = refl; methods = tt }
sys_is p (suc (suc (suc (suc (suc zero))))) = λ e. absurd (omega (arith, e))
sys_is p (suc (suc (suc (suc (suc (suc n)))))) = tt

-- ---- fields

fields_are : (p : Pointer) → All (IsField (ramp p)) (ramp p).fields
fields_are p = all_of (IsField (ramp p)) (ramp p).fields
    (record { class = lit< tt; form = tt; initial = refl }, (record { class = lit< tt; form = tt; initial = refl }, (record { class = lit< tt; form = tt; initial = refl }, tt)))

no_objects : (p : Pointer) (class : ℕ) → All (λ f. LiesDeeper (λ _. 0) class f.form) (fields (ramp p) class)
no_objects p class = of_fields (λ (f : Field). LiesDeeper (λ _. 0) class f.form) (ramp p) (all_of (λ (f : Field). LiesDeeper (λ _. 0) class f.form) (ramp p).fields (tt, (tt, (tt, tt)))) class

-- ---- members

-- a method of a class overrides the one above it of its name, if there is one
abbrev pub OverridesAbove : Program → ℕ → Method → Type 0
OverridesAbove program class m = m.class.0 ≡ class → IfSome (base_of program.schema.classes class) (λ base.
    IfSome (find program base m.name) (λ n. IfSome (slice_get program.methods n) (Overrides m)))

pub overrides : (p : Pointer) (component : ℕ) (name : List ℕ) (body : Stmt) (class : ℕ) → Overrides (void_method class name body) (void_method component name (nothing p))
overrides p component name body class = record { instance = refl; instance_above = refl; virtual = refl; virtual_above = refl; params = refl; result = refl }

pub overrides_changed : (p : Pointer) (component : ℕ) → Overrides (changed_method component (nothing p)) (changed_method component (nothing p))
overrides_changed p component = record { instance = refl; instance_above = refl; virtual = refl; virtual_above = refl; params = refl; result = refl }

members : (p : Pointer) (class : ℕ) → class < 6 → HasMembers (ramp p) class
members p zero h = record {
  once = once_each (ramp p) 0 refl;
  fields = names_new (ramp p) 0 (ramp p).fields refl;
  statics = names_new (ramp p) 0 [] refl;
  methods_apart = names_apart (ramp p) 0 refl;
  methods = all_of (OverridesAbove (ramp p) 0) (ramp p).methods (λ e. tt, (λ e. tt, (λ e. tt, (λ e. tt, (λ e. tt, (λ e. tt, tt))))));
  methods_most = lit≤ tt;
  virtual_most = lit≤ tt;
}
members p (suc zero) h = record {
  once = once_each (ramp p) 1 refl;
  fields = names_new (ramp p) 1 (ramp p).fields refl;
  statics = names_new (ramp p) 1 [] refl;
  methods_apart = names_apart (ramp p) 1 refl;
  methods = all_of (OverridesAbove (ramp p) 1) (ramp p).methods (λ e. tt, (λ e. tt, (λ e. tt, (λ e. tt, (λ e. tt, (λ e. tt, tt))))));
  methods_most = lit≤ tt;
  virtual_most = lit≤ tt;
}
members p (suc (suc zero)) h = record {
  once = once_each (ramp p) 2 refl;
  fields = names_new (ramp p) 2 (ramp p).fields refl;
  statics = names_new (ramp p) 2 [] refl;
  methods_apart = names_apart (ramp p) 2 refl;
  methods = all_of (OverridesAbove (ramp p) 2) (ramp p).methods (λ e. tt, (λ e. tt, (λ e. tt, (λ e. tt, (λ e. tt, (λ e. tt, tt))))));
  methods_most = lit≤ tt;
  virtual_most = lit≤ tt;
}
members p (suc (suc (suc zero))) h = record {
  once = once_each (ramp p) 3 refl;
  fields = names_new (ramp p) 3 (ramp p).fields refl;
  statics = names_new (ramp p) 3 [] refl;
  methods_apart = names_apart (ramp p) 3 refl;
  methods = all_of (OverridesAbove (ramp p) 3) (ramp p).methods (
    λ e. overrides p 2 (codes "execute") (nothing p) 2,
    (λ e. overrides p 2 (codes "start") (nothing p) 2, (λ e. overrides p 2 (codes "stop") (nothing p) 2, (λ e. overrides_changed p 2, (λ e. tt, (λ e. overrides p 2 (codes "execute") (adding p) 5, tt))))),
  );
  methods_most = lit≤ tt;
  virtual_most = lit≤ tt;
}
members p (suc (suc (suc (suc zero)))) h = record {
  once = once_each (ramp p) 4 refl;
  fields = names_new (ramp p) 4 (ramp p).fields refl;
  statics = names_new (ramp p) 4 [] refl;
  methods_apart = names_apart (ramp p) 4 refl;
  methods = all_of (OverridesAbove (ramp p) 4) (ramp p).methods (
    λ e. overrides p 2 (codes "execute") (nothing p) 2,
    (λ e. overrides p 2 (codes "start") (nothing p) 2, (λ e. overrides p 2 (codes "stop") (nothing p) 2, (λ e. overrides_changed p 2, (λ e. tt, (λ e. overrides p 2 (codes "execute") (adding p) 5, tt))))),
  );
  methods_most = lit≤ tt;
  virtual_most = lit≤ tt;
}
members p (suc (suc (suc (suc (suc zero))))) h = record {
  once = once_each (ramp p) 5 refl;
  fields = names_new (ramp p) 5 (ramp p).fields refl;
  statics = names_new (ramp p) 5 [] refl;
  methods_apart = names_apart (ramp p) 5 refl;
  methods = all_of (OverridesAbove (ramp p) 5) (ramp p).methods (
    λ e. overrides p 2 (codes "execute") (nothing p) 2,
    (λ e. overrides p 2 (codes "start") (nothing p) 2, (λ e. overrides p 2 (codes "stop") (nothing p) 2, (λ e. overrides_changed p 2, (λ e. tt, (λ e. overrides p 2 (codes "execute") (adding p) 5, tt))))),
  );
  methods_most = lit≤ tt;
  virtual_most = lit≤ tt;
}
members p (suc (suc (suc (suc (suc (suc n)))))) h = absurd (omega (arith, h))

-- ---- methods

-- the receiver of a class that is there
pub receiver_is : (program : Program) (class : ℕ) → class < length program.schema.classes → All (IsStorable program) (kind.Object (record { 0 = class }) ∷ [])
receiver_is program class h = all_of (IsStorable program) (kind.Object (record { 0 = class }) ∷ []) (h, tt)

nothing_is_body : (program : Program) (p : Pointer) (class : ℕ) (name : List ℕ) → class < length program.schema.classes → IsBody program (void_method class name (nothing p)) (nothing p)
nothing_is_body program p class name h = record { storable = receiver_is program class h; numbered = tt; most_locals = lit≤ tt; typed = tt; depth = lit≤ tt }

adding_is_body : (p : Pointer) → IsBody (ramp p) (void_method 5 (codes "execute") (adding p)) (adding p)
adding_is_body p = record {
  storable = receiver_is (ramp p) 5 (lit< tt);
  numbered = tt;
  most_locals = lit≤ tt;
  typed = (((refl, refl), refl), (((refl, refl), (refl, tt)), ((((refl, refl), (refl, tt)), (refl, refl)), tt)), refl);
  depth = lit≤ tt;
}

changed_is_body : (program : Program) (p : Pointer) (class : ℕ) → class < length program.schema.classes → IsBody program (changed_method class (nothing p)) (nothing p)
changed_is_body program p class h = record {
  storable = all_of (IsStorable program) (kind.Object (record { 0 = class }) ∷ kind.Int ∷ []) (h, (tt, tt));
  numbered = tt;
  most_locals = lit≤ tt;
  typed = tt;
  depth = lit≤ tt;
}

pub has_body : {P : Type 0} (body : Stmt) → Some body ≡ None → P
has_body body e = let never : ⊥ = cc in absurd never

-- the methods of `sys` in a program whose class of this number is at or below `Virtual`
pub void_is : (program : Program) (p : Pointer) (class : ℕ) (name : List ℕ) → class < length program.schema.classes → IsTrue (is_below_sys program.schema.classes virtual_type class) →
    IsMethod program (void_method class name (nothing p))
void_is program p class name within below = record {
  class = within;
  params = all_of (IsStorable program) [] tt;
  params_most = lit≤ tt;
  result = tt;
  virtual = λ e. (refl, below);
  no_body = has_body (nothing p);
  body = nothing_is_body program p class name within;
}

pub changed_is : (program : Program) (p : Pointer) (class : ℕ) → class < length program.schema.classes → IsTrue (is_below_sys program.schema.classes virtual_type class) →
    IsMethod program (changed_method class (nothing p))
changed_is program p class within below = record {
  class = within;
  params = all_of (IsStorable program) (kind.Int ∷ []) (tt, tt);
  params_most = lit≤ tt;
  result = tt;
  virtual = λ e. (refl, below);
  no_body = has_body (nothing p);
  body = changed_is_body program p class within;
}

methods_are : (p : Pointer) → All (IsMethod (ramp p)) (ramp p).methods
methods_are p = all_of (IsMethod (ramp p)) (ramp p).methods (
  void_is (ramp p) p 2 (codes "execute") (lit< tt) refl,
  (
    void_is (ramp p) p 2 (codes "start") (lit< tt) refl,
    (
      void_is (ramp p) p 2 (codes "stop") (lit< tt) refl,
      (
        changed_is (ramp p) p 2 (lit< tt) refl,
        (
          void_is (ramp p) p 3 (codes "save") (lit< tt) refl,
          (record { class = lit< tt; params = all_of (IsStorable (ramp p)) [] tt; params_most = lit≤ tt; result = tt; virtual = λ e. (refl, refl); no_body = has_body (adding p); body = adding_is_body p }, tt),
        ),
      ),
    ),
  ),
)

pub abstract_is : {P : Type 0} → true ≡ false → P
abstract_is e = let never : ⊥ = cc in absurd never

-- a class that is not abstract has bodies, since each method has
bodies : (p : Pointer) (class : ℕ) → class < 6 → HasBodies (ramp p) class
bodies p zero h = abstract_is
bodies p (suc zero) h = abstract_is
bodies p (suc (suc zero)) h = abstract_is
bodies p (suc (suc (suc zero))) h = λ e. of_app
  where
    of_app : (m : ℕ) → IfSome (find (ramp p) 3 (method_name (ramp p) m)) (λ n. IsSomeAnd (slice_get (ramp p).methods n) (λ x. x.body ≡ None → ⊥))
    of_app zero = has_body (nothing p)
    of_app (suc zero) = has_body (nothing p)
    of_app (suc (suc zero)) = has_body (nothing p)
    of_app (suc (suc (suc zero))) = has_body (nothing p)
    of_app (suc (suc (suc (suc zero)))) = has_body (nothing p)
    of_app (suc (suc (suc (suc (suc zero))))) = has_body (nothing p)
    of_app (suc (suc (suc (suc (suc (suc m)))))) = tt
bodies p (suc (suc (suc (suc zero)))) h = λ e. of_folder
  where
    of_folder : (m : ℕ) → IfSome (find (ramp p) 4 (method_name (ramp p) m)) (λ n. IsSomeAnd (slice_get (ramp p).methods n) (λ x. x.body ≡ None → ⊥))
    of_folder zero = has_body (nothing p)
    of_folder (suc zero) = has_body (nothing p)
    of_folder (suc (suc zero)) = has_body (nothing p)
    of_folder (suc (suc (suc zero))) = has_body (nothing p)
    of_folder (suc (suc (suc (suc zero)))) = tt
    of_folder (suc (suc (suc (suc (suc zero))))) = has_body (nothing p)
    of_folder (suc (suc (suc (suc (suc (suc m)))))) = tt
bodies p (suc (suc (suc (suc (suc zero))))) h = λ e. of_ramp
  where
    of_ramp : (m : ℕ) → IfSome (find (ramp p) 5 (method_name (ramp p) m)) (λ n. IsSomeAnd (slice_get (ramp p).methods n) (λ x. x.body ≡ None → ⊥))
    of_ramp zero = has_body (adding p)
    of_ramp (suc zero) = has_body (nothing p)
    of_ramp (suc (suc zero)) = has_body (nothing p)
    of_ramp (suc (suc (suc zero))) = has_body (nothing p)
    of_ramp (suc (suc (suc (suc zero)))) = tt
    of_ramp (suc (suc (suc (suc (suc zero))))) = has_body (adding p)
    of_ramp (suc (suc (suc (suc (suc (suc m)))))) = tt
bodies p (suc (suc (suc (suc (suc (suc n)))))) h = absurd (omega (arith, h))

-- ---- the whole program

pub ramp_is_typed : (p : Pointer) → Typed (ramp p)
ramp_is_typed p = record {
  kits = kits p;
  classes = class_is p;
  slots = has_slots p;
  members = members p;
  sys = sys_is p;
  fields = fields_are p;
  fields_by_class = refl;
  statics = all_of (IsField (ramp p)) [] tt;
  statics_apart = all_of (λ (f : Field). f.slot ≡ None) [] tt;
  texts_once = named_once (λ (t : List ℕ). t) [] refl;
  depth = λ _. 0;
  deeper = no_objects p;
  methods = methods_are p;
  bodies = bodies p;
  statics_most = lit< tt;
  texts = all_of IsText [] tt;
  texts_most = lit≤ tt;
}

pub ramp_is_whole : (p : Pointer) → IsWhole (meaning_of (ramp p))
ramp_is_whole p = whole_of (ramp p) (ramp_is_typed p)

-- a root call on a new ramp, of which all that may be asked of it holds
abbrev pub new_ramp : Pointer → Question
new_ramp p = asked_of (new_object (meaning_of (ramp p)) 5) (meaning_of (ramp p)).initial_statics Execute kept.Nothing 10 (pos 0)

pub ramp_asked : (p : Pointer) → MayAsk (meaning_of (ramp p)) (new_ramp p)
ramp_asked p = may_then (meaning_of (ramp p)) (new_ramp p) (record {
  creatable = refl;
  contents = (ramp_is_whole p).tables.first 5 (lit< tt);
  statics = (ramp_is_whole p).tables.first_statics;
  argument = refl;
  some_turns = lit≤ tt;
  most_turns = lit≤ tt;
  moment = refl;
})

pub ramp_ends : (p : Pointer) → EndsWell 10 ((meaning_of (ramp p)).root (new_ramp p)).end
ramp_ends p = ((ramp_is_whole p).answers (new_ramp p) (ramp_asked p)).end
