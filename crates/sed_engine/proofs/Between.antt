-- A class of another kit that stands between the types of `sys`: a program is typed with it there, and its root calls find
-- `Component` all the same.
use Rattle.std.proofs.Common.{◌≡◌, pos, ◌<◌, ◌≤◌, ◌==◌, ℕ, zero, suc, true, false, [], ◌∷◌, List, map, None, refl, lit<, lit≤, arith, codes}
use Rattle.std.specs.Prelude.{All, IfSome, IsSomeAnd, IsTrue, count_by, slice_get}
use Rattle.std.specs.Str.{bytes_eq}
use Rattle.std.proofs.lemmas.List.Sums.{count_by-le-length}
use Rattle.sed_value.specs.Names.{is_kit_name}
use Rattle.sed_value.specs.declared.kit.KitRef.{KitRef}
use Rattle.sed_value.specs.declared.value.Value.TheVariants as kept
use Rattle.sed_typed.specs.declared.program.Field.{Field}
use Rattle.sed_typed.specs.declared.program.Program.{Program}
use Rattle.sed_typed.specs.declared.schema.SlotInfo.{SlotInfo}
use Rattle.sed_typed.specs.Classes.{find, fields, slots as slots_of, method_name}
use Rattle.sed_typed.specs.SysMembers.{HasSysMembers}
use Rattle.sed_typed.specs.SysTypes.{HasSysTypes, meta_slot, save_slot}
use Rattle.sed_typed.specs.Typed.{Typed, IsMethod, HasBodies, IsText}
use Rattle.sed_typed.specs.TypedSchema.{HasKits, IsClass, HasSlot, HasSlots, IsAdded, added_slots, IsField, HasMembers, LiesDeeper, types_of, types_at}
use Rattle.sed_engine.specs.declared.call.Callback.TheVariants.{Start}
use Rattle.sed_engine.specs.declared.call.CallEnd.TheVariants.{Done}
use Rattle.sed_engine.specs.declared.call.Root.TheVariants.{Callback}
use Rattle.sed_engine.specs.Program.{meaning_of}
use Rattle.sed_engine.specs.Root.{calls_with, root}
use Rattle.sed_engine.specs.Whole.{IsWhole}
use Rattle.sed_typed.specs.Initial.{initial}
use Rattle.sed_engine.proofs.Building.{Pointer}
use Rattle.sed_engine.proofs.FieldLists.{of_fields}
use Rattle.sed_engine.proofs.MemberNames.{Each, all_of, distinct, once_each, named_once, names_new, names_apart}
use Rattle.sed_engine.proofs.Ramp.{based_on, class_of, int_property, nothing, sys_methods_in}
use Rattle.sed_engine.proofs.RampTyped.{InSlots, OverridesAbove, abstract_is, changed_is, has_base_of, has_body, no_types, none_below, none_rise, not_app, one_rises, overrides, overrides_changed, void_is}
use Rattle.sed_engine.proofs.TypedCodes.{whole_of}

-- kit demo has class Plain, which extends Obj and stands behind it: Virtual, Component, App and Folder have the numbers 2 to 5
abbrev between : Pointer → Program
between p = record {
  schema = record {
    kits = record { name = codes "sys"; checksum = pos 0 } ∷ record { name = codes "demo"; checksum = pos 0 } ∷ [];
    classes =
        class_of 0 0 (codes "Obj") None true false 0 []
        ∷ class_of 1 0 (codes "Plain") (based_on 0) false false 0 []
        ∷ class_of 0 1 (codes "Virtual") (based_on 0) true false 0 []
        ∷ class_of 0 2 (codes "Component") (based_on 2) true true 4 (meta_slot ∷ [])
        ∷ class_of 0 3 (codes "App") (based_on 3) false true 4 (meta_slot ∷ save_slot ∷ [])
        ∷ class_of 0 4 (codes "Folder") (based_on 3) false true 4 (meta_slot ∷ [])
        ∷ [];
  };
  methods = sys_methods_in 3 4 p;
  fields = int_property 3 (codes "meta") 0 0 ∷ [];
  statics = [];
  texts = [];
}

-- ---- kits

sys_types : (p : Pointer) → HasSysTypes (between p).schema.classes
sys_types p = record {
  five = refl;
  object = record { name_is = refl; base_is = refl; is_abstract = refl; is_component = refl; size_is = refl; slots = refl };
  virtual = record { name_is = refl; base_is = refl; is_abstract = refl; is_component = refl; size_is = refl; slots = refl };
  component = record { name_is = refl; base_is = refl; is_abstract = refl; is_component = refl; size_is = refl; slots = refl };
  app = record { name_is = refl; base_is = refl; is_abstract = refl; is_component = refl; size_is = refl; slots = refl };
  folder = record { name_is = refl; base_is = refl; is_abstract = refl; is_component = refl; size_is = refl; slots = refl };
}

known : (p : Pointer) → All (λ c. c.kit < 2) (between p).schema.classes
known p = all_of (λ c. c.kit < 2) (between p).schema.classes (lit< tt, (lit< tt, (lit< tt, (lit< tt, (lit< tt, (lit< tt, tt))))))

numbered : (p : Pointer) (kit number : ℕ) → number < types_of (between p).schema.classes kit → types_at (between p).schema.classes kit number ≡ 1
numbered p zero zero h = refl
numbered p zero (suc zero) h = refl
numbered p zero (suc (suc zero)) h = refl
numbered p zero (suc (suc (suc zero))) h = refl
numbered p zero (suc (suc (suc (suc zero)))) h = refl
numbered p zero (suc (suc (suc (suc (suc n))))) h = absurd (omega (arith, h))
numbered p (suc zero) zero h = refl
numbered p (suc zero) (suc n) h = absurd (omega (arith, h))
numbered p (suc (suc kit)) number h =
    let no : types_of (between p).schema.classes (suc (suc kit)) ≡ 0 = no_types 2 (suc (suc kit)) (omega arith) (between p).schema.classes (known p) in
    absurd (omega (arith, h, no))

kits : (p : Pointer) → HasKits (between p).schema
kits p = record {
  most = lit≤ tt;
  sys = refl;
  names = all_of (λ kit. IsTrue (is_kit_name kit.name)) (between p).schema.kits (refl, (refl, tt));
  names_once = named_once (λ (kit : KitRef). kit.name) (between p).schema.kits refl;
  known = known p;
  numbered = numbered p;
  types = λ kit. let h : types_of (between p).schema.classes kit ≤ 6 = count_by-le-length (λ c. c.kit == kit) (between p).schema.classes in omega (arith, h);
  sys_types = sys_types p;
}

-- ---- classes

class_is : (p : Pointer) (class : ℕ) → IfSome (slice_get (between p).schema.classes class) (IsClass (between p) class)
class_is p zero = record {
  name_free = refl;
  name_once = refl;
  based = λ e. (refl, refl);
  base = tt;
  component = refl;
  size = refl;
  size_most = lit< tt;
  slots_most = lit≤ tt;
  config_most = lit≤ tt;
  runtime_most = lit≤ tt;
}
class_is p (suc zero) = record {
  name_free = refl;
  name_once = refl;
  based = has_base_of _;
  base = record { before = lit< tt; no_app = not_app 4 0 (lit< tt); slots = (_, refl); size = lit≤ tt };
  component = refl;
  size = refl;
  size_most = lit< tt;
  slots_most = lit≤ tt;
  config_most = lit≤ tt;
  runtime_most = lit≤ tt;
}
class_is p (suc (suc zero)) = record {
  name_free = refl;
  name_once = refl;
  based = has_base_of _;
  base = record { before = lit< tt; no_app = not_app 4 0 (lit< tt); slots = (_, refl); size = lit≤ tt };
  component = refl;
  size = refl;
  size_most = lit< tt;
  slots_most = lit≤ tt;
  config_most = lit≤ tt;
  runtime_most = lit≤ tt;
}
class_is p (suc (suc (suc zero))) = record {
  name_free = refl;
  name_once = refl;
  based = has_base_of _;
  base = record { before = lit< tt; no_app = not_app 4 2 (lit< tt); slots = (_, refl); size = lit≤ tt };
  component = refl;
  size = refl;
  size_most = lit< tt;
  slots_most = lit≤ tt;
  config_most = lit≤ tt;
  runtime_most = lit≤ tt;
}
class_is p (suc (suc (suc (suc zero)))) = record {
  name_free = refl;
  name_once = refl;
  based = has_base_of _;
  base = record { before = lit< tt; no_app = not_app 4 3 (lit< tt); slots = (_, refl); size = lit≤ tt };
  component = refl;
  size = refl;
  size_most = lit< tt;
  slots_most = lit≤ tt;
  config_most = lit≤ tt;
  runtime_most = lit≤ tt;
}
class_is p (suc (suc (suc (suc (suc zero))))) = record {
  name_free = refl;
  name_once = refl;
  based = has_base_of _;
  base = record { before = lit< tt; no_app = not_app 4 3 (lit< tt); slots = (_, refl); size = lit≤ tt };
  component = refl;
  size = refl;
  size_most = lit< tt;
  slots_most = lit≤ tt;
  config_most = lit≤ tt;
  runtime_most = lit≤ tt;
}
class_is p (suc (suc (suc (suc (suc (suc n)))))) = tt

-- ---- slots

each_slot : (p : Pointer) (class n : ℕ) → IfSome (slice_get (slots_of (between p).schema.classes class) n) (λ s. HasSlot (between p) class n s s.form)
each_slot p zero n = tt
each_slot p (suc zero) n = tt
each_slot p (suc (suc zero)) n = tt
each_slot p (suc (suc (suc zero))) zero = (int_property 3 (codes "meta") 0 0, refl, (refl, refl))
each_slot p (suc (suc (suc zero))) (suc n) = tt
each_slot p (suc (suc (suc (suc zero)))) zero = (int_property 3 (codes "meta") 0 0, refl, (refl, refl))
each_slot p (suc (suc (suc (suc zero)))) (suc zero) = (refl, (refl, refl, refl, refl), refl)
each_slot p (suc (suc (suc (suc zero)))) (suc (suc n)) = tt
each_slot p (suc (suc (suc (suc (suc zero))))) zero = (int_property 3 (codes "meta") 0 0, refl, (refl, refl))
each_slot p (suc (suc (suc (suc (suc zero))))) (suc n) = tt
each_slot p (suc (suc (suc (suc (suc (suc c)))))) n = tt

slot_names : (p : Pointer) (class : ℕ) → distinct (map (λ (s : SlotInfo). s.name) (slots_of (between p).schema.classes class)) ≡ true →
    (name : List ℕ) → count_by (λ s. bytes_eq s.name name) (slots_of (between p).schema.classes class) ≤ 1
slot_names p class h = named_once (λ (s : SlotInfo). s.name) (slots_of (between p).schema.classes class) h

adds : (p : Pointer) (class : ℕ) → Each (λ s. IsAdded (between p) class s s.form) (added_slots (between p).schema.classes class) → All (λ s. IsAdded (between p) class s s.form) (added_slots (between p).schema.classes class)
adds p class h = all_of (λ (s : SlotInfo). IsAdded (between p) class s s.form) (added_slots (between p).schema.classes class) h

has_slots : (p : Pointer) (class : ℕ) → IfSome (slice_get (between p).schema.classes class) (HasSlots (between p) class)
has_slots p zero = record { each = each_slot p 0; names = slot_names p 0 refl; added = adds p 0 tt; in_order = none_rise; components = none_below; within = all_of (InSlots 0) (fields (between p) 0) tt }
has_slots p (suc zero) = record { each = each_slot p 1; names = slot_names p 1 refl; added = adds p 1 tt; in_order = none_rise; components = none_below; within = all_of (InSlots 0) (fields (between p) 1) tt }
has_slots p (suc (suc zero)) = record { each = each_slot p 2; names = slot_names p 2 refl; added = adds p 2 tt; in_order = none_rise; components = none_below; within = all_of (InSlots 0) (fields (between p) 2) tt }
has_slots p (suc (suc (suc zero))) = record { each = each_slot p 3; names = slot_names p 3 refl; added = adds p 3 (tt, tt); in_order = one_rises 0; components = λ h. refl; within = all_of (InSlots 1) (fields (between p) 3) (lit< tt, tt) }
has_slots p (suc (suc (suc (suc zero)))) = record { each = each_slot p 4; names = slot_names p 4 refl; added = adds p 4 ((refl, refl), tt); in_order = none_rise; components = λ h. refl; within = all_of (InSlots 2) (fields (between p) 4) (lit< tt, tt) }
has_slots p (suc (suc (suc (suc (suc zero))))) = record { each = each_slot p 5; names = slot_names p 5 refl; added = adds p 5 tt; in_order = none_rise; components = λ h. refl; within = all_of (InSlots 1) (fields (between p) 5) (lit< tt, tt) }
has_slots p (suc (suc (suc (suc (suc (suc n)))))) = tt

-- ---- members

sys_is : (p : Pointer) (class : ℕ) → IfSome (slice_get (between p).schema.classes class) (λ info. info.kit ≡ 0 → HasSysMembers (between p) class info)
sys_is p zero = λ e. record { fields = refl; statics = refl; methods = tt }
sys_is p (suc zero) = λ e. absurd (omega (arith, e))
sys_is p (suc (suc zero)) = λ e. record { fields = refl; statics = refl; methods = tt }
sys_is p (suc (suc (suc zero))) = λ e. record { fields = refl; statics = refl; methods = (record { name_is = refl; form = (refl, refl, refl, refl); body = tt }, (record { name_is = refl; form = (refl, refl, refl, refl); body = tt }, (record { name_is = refl; form = (refl, refl, refl, refl); body = tt }, (record { name_is = refl; form = (refl, refl, refl, refl); body = tt }, tt)))) }
sys_is p (suc (suc (suc (suc zero)))) = λ e. record { fields = refl; statics = refl; methods = (record { name_is = refl; form = (refl, refl, refl, refl); body = tt }, tt) }
sys_is p (suc (suc (suc (suc (suc zero))))) = λ e. record { fields = refl; statics = refl; methods = tt }
sys_is p (suc (suc (suc (suc (suc (suc n)))))) = tt

members : (p : Pointer) (class : ℕ) → class < 6 → HasMembers (between p) class
members p zero h = record {
  once = once_each (between p) 0 refl;
  fields = names_new (between p) 0 (between p).fields refl;
  statics = names_new (between p) 0 [] refl;
  methods_apart = names_apart (between p) 0 refl;
  methods = all_of (OverridesAbove (between p) 0) (between p).methods (λ e. tt, (λ e. tt, (λ e. tt, (λ e. tt, (λ e. tt, tt)))));
  methods_most = lit≤ tt;
  virtual_most = lit≤ tt;
}
members p (suc zero) h = record {
  once = once_each (between p) 1 refl;
  fields = names_new (between p) 1 (between p).fields refl;
  statics = names_new (between p) 1 [] refl;
  methods_apart = names_apart (between p) 1 refl;
  methods = all_of (OverridesAbove (between p) 1) (between p).methods (λ e. tt, (λ e. tt, (λ e. tt, (λ e. tt, (λ e. tt, tt)))));
  methods_most = lit≤ tt;
  virtual_most = lit≤ tt;
}
members p (suc (suc zero)) h = record {
  once = once_each (between p) 2 refl;
  fields = names_new (between p) 2 (between p).fields refl;
  statics = names_new (between p) 2 [] refl;
  methods_apart = names_apart (between p) 2 refl;
  methods = all_of (OverridesAbove (between p) 2) (between p).methods (λ e. tt, (λ e. tt, (λ e. tt, (λ e. tt, (λ e. tt, tt)))));
  methods_most = lit≤ tt;
  virtual_most = lit≤ tt;
}
members p (suc (suc (suc zero))) h = record {
  once = once_each (between p) 3 refl;
  fields = names_new (between p) 3 (between p).fields refl;
  statics = names_new (between p) 3 [] refl;
  methods_apart = names_apart (between p) 3 refl;
  methods = all_of (OverridesAbove (between p) 3) (between p).methods (λ e. tt, (λ e. tt, (λ e. tt, (λ e. tt, (λ e. tt, tt)))));
  methods_most = lit≤ tt;
  virtual_most = lit≤ tt;
}
members p (suc (suc (suc (suc zero)))) h = record {
  once = once_each (between p) 4 refl;
  fields = names_new (between p) 4 (between p).fields refl;
  statics = names_new (between p) 4 [] refl;
  methods_apart = names_apart (between p) 4 refl;
  methods = all_of (OverridesAbove (between p) 4) (between p).methods (
    λ e. overrides p 3 (codes "execute") (nothing p) 3,
    (λ e. overrides p 3 (codes "start") (nothing p) 3, (λ e. overrides p 3 (codes "stop") (nothing p) 3, (λ e. overrides_changed p 3, (λ e. tt, tt)))),
  );
  methods_most = lit≤ tt;
  virtual_most = lit≤ tt;
}
members p (suc (suc (suc (suc (suc zero))))) h = record {
  once = once_each (between p) 5 refl;
  fields = names_new (between p) 5 (between p).fields refl;
  statics = names_new (between p) 5 [] refl;
  methods_apart = names_apart (between p) 5 refl;
  methods = all_of (OverridesAbove (between p) 5) (between p).methods (
    λ e. overrides p 3 (codes "execute") (nothing p) 3,
    (λ e. overrides p 3 (codes "start") (nothing p) 3, (λ e. overrides p 3 (codes "stop") (nothing p) 3, (λ e. overrides_changed p 3, (λ e. tt, tt)))),
  );
  methods_most = lit≤ tt;
  virtual_most = lit≤ tt;
}
members p (suc (suc (suc (suc (suc (suc n)))))) h = absurd (omega (arith, h))

methods_are : (p : Pointer) → All (IsMethod (between p)) (between p).methods
methods_are p = all_of (IsMethod (between p)) (between p).methods (
  void_is (between p) p 3 (codes "execute") (lit< tt) refl,
  (
    void_is (between p) p 3 (codes "start") (lit< tt) refl,
    (void_is (between p) p 3 (codes "stop") (lit< tt) refl, (changed_is (between p) p 3 (lit< tt) refl, (void_is (between p) p 4 (codes "save") (lit< tt) refl, tt))),
  ),
)

bodies : (p : Pointer) (class : ℕ) → class < 6 → HasBodies (between p) class
bodies p zero h = abstract_is
bodies p (suc zero) h = λ e. of_plain
  where
    of_plain : (m : ℕ) → IfSome (find (between p) 1 (method_name (between p) m)) (λ n. IsSomeAnd (slice_get (between p).methods n) (λ x. x.body ≡ None → ⊥))
    of_plain zero = tt
    of_plain (suc zero) = tt
    of_plain (suc (suc zero)) = tt
    of_plain (suc (suc (suc zero))) = tt
    of_plain (suc (suc (suc (suc zero)))) = tt
    of_plain (suc (suc (suc (suc (suc m))))) = tt
bodies p (suc (suc zero)) h = abstract_is
bodies p (suc (suc (suc zero))) h = abstract_is
bodies p (suc (suc (suc (suc zero)))) h = λ e. of_app
  where
    of_app : (m : ℕ) → IfSome (find (between p) 4 (method_name (between p) m)) (λ n. IsSomeAnd (slice_get (between p).methods n) (λ x. x.body ≡ None → ⊥))
    of_app zero = has_body (nothing p)
    of_app (suc zero) = has_body (nothing p)
    of_app (suc (suc zero)) = has_body (nothing p)
    of_app (suc (suc (suc zero))) = has_body (nothing p)
    of_app (suc (suc (suc (suc zero)))) = has_body (nothing p)
    of_app (suc (suc (suc (suc (suc m))))) = tt
bodies p (suc (suc (suc (suc (suc zero))))) h = λ e. of_folder
  where
    of_folder : (m : ℕ) → IfSome (find (between p) 5 (method_name (between p) m)) (λ n. IsSomeAnd (slice_get (between p).methods n) (λ x. x.body ≡ None → ⊥))
    of_folder zero = has_body (nothing p)
    of_folder (suc zero) = has_body (nothing p)
    of_folder (suc (suc zero)) = has_body (nothing p)
    of_folder (suc (suc (suc zero))) = has_body (nothing p)
    of_folder (suc (suc (suc (suc zero)))) = tt
    of_folder (suc (suc (suc (suc (suc m))))) = tt
bodies p (suc (suc (suc (suc (suc (suc n)))))) h = absurd (omega (arith, h))

-- ---- the whole program

pub between_is_typed : (p : Pointer) → Typed (between p)
between_is_typed p = record {
  kits = kits p;
  classes = class_is p;
  slots = has_slots p;
  members = members p;
  sys = sys_is p;
  fields = all_of (IsField (between p)) (between p).fields (record { class = lit< tt; form = tt; initial = refl }, tt);
  fields_by_class = refl;
  statics = all_of (IsField (between p)) [] tt;
  statics_apart = all_of (λ (f : Field). f.slot ≡ None) [] tt;
  texts_once = named_once (λ (t : List ℕ). t) [] refl;
  depth = λ _. 0;
  deeper = λ class. of_fields (λ (f : Field). LiesDeeper (λ _. 0) class f.form) (between p) (all_of (λ (f : Field). LiesDeeper (λ _. 0) class f.form) (between p).fields (tt, tt)) class;
  methods = methods_are p;
  bodies = bodies p;
  statics_most = lit< tt;
  texts = all_of IsText [] tt;
  texts_most = lit≤ tt;
}

pub between_is_whole : (p : Pointer) → IsWhole (meaning_of (between p))
between_is_whole p = whole_of (between p) (between_is_typed p)

-- `start` of a folder is the method of `Component`, which takes no turn
start_is_there : (p : Pointer) → (root (between p) 5 (initial (between p) 5) [] (Callback Start) kept.Nothing 10 (pos 0)).end ≡ Done 10
unfolding calls_with
start_is_there p = refl
