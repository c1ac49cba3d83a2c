-- What root calls, stores and copies leave of a whole application.
use Rattle.std.proofs.Common.{ℕ, ℤ, ◌≡◌, ◌<◌, ◌≤◌, Bool, true, false, inl, inr, refl, sym, ◌∙◌, ap, subst, arith}
use Rattle.std.specs.Prelude.{Option, Some, None, IfSome, IsSomeAnd, IsTrue, not, ◌==◌, ◌&&◌, if◌then◌else◌, [], ◌∷◌, codes, slice_get}
use Rattle.std.specs.Option.{option_map_or}
use Rattle.std.specs.FinMap as map
use Rattle.std.proofs.lemmas.Bool.{cases_eq, cases_lt}
use Rattle.sed_value.specs.declared.value.Value.{Value}
use Rattle.sed_typed.specs.declared.schema.ClassInfo.{ClassInfo}
use Rattle.sed_typed.specs.Schemas.{type_at as class_numbered}
use Rattle.sed_typed.specs.SysTypes.{IsSysType, app_type, meta_slot, save_slot}
use Rattle.sed_engine.specs.declared.call.CallEnd.{CallEnd}
use Rattle.sed_engine.specs.declared.call.CallEnd.TheVariants.{Done, Trap}
use Rattle.sed_engine.specs.declared.call.Root.{Root}
use Rattle.sed_engine.specs.Code.{Meaning, Object, Question, asked_of, is_creatable, may_store, root_of, with_slot}
use Rattle.sed_engine.specs.Fits.{Fits}
use Rattle.sed_engine.specs.Root.{RootEnd}
use Rattle.sed_engine.specs.Whole.{EndsWell, IsObject, IsWhole}
use Rattle.sed_engine.proofs.MaskedCodes.{whole_leaves}
use Rattle.sub_table.specs.Link.{Link}
use Rattle.comp_tree.specs.Application.{Application, Component, object_of, value_at}
use Rattle.comp_tree.specs.Calls.{ended, fault_by, not_run, run_at, with_end}
use Rattle.comp_tree.specs.Edit.{over}
use Rattle.comp_tree.specs.Links.{copy, store, with_value}
use Rattle.comp_tree.specs.Refusals.{is_abstract_class, is_for_components}
use Rattle.comp_tree.specs.Whole.{IsApp, IsLink, IsOther, Whole}
use Rattle.comp_tree.proofs.FitLemmas.{may_be_copied}
use Rattle.app_file.proofs.PutComponents.{here, some_is, whole_put}

-- ---- what a component may be asked

module _ (m : Meaning) (code : IsWhole m) where
  -- a root call ends with a fault that a component may have
  fault_fits : (q : Question) → fault_by (m.root q).end ≤ 5
  fault_fits q = by_end (m.root q).end refl
    where
      by_end : (e : CallEnd) → (m.root q).end ≡ e → fault_by (m.root q).end ≤ 5
      by_end (Done left) is = subst (λ (e : CallEnd). fault_by e ≤ 5) (sym is) (omega arith)
      by_end (Trap n) is = subst (λ (e : CallEnd). fault_by e ≤ 5) (sym is) (elim (cases_lt 5 n) [
        | inl lt ↦
            let not_asked = code.unasked q (λ ask. let well = subst (EndsWell q.turns) is (code.answers q ask).end in let few = well.1 in omega arith) in
            let none : Trap n ≡ Trap 0 = sym is ∙ ap (λ (e : RootEnd). e.end) not_asked in
            no_trap n none
        | inr le ↦ le
      ])
        where
          no_trap : (n : ℕ) → Trap n ≡ Trap 0 → n ≤ 5
          no_trap n e = let zero_is : n ≡ 0 = cc in omega arith

  -- a component's class is one of which components are made
  by_class : (r : Option ClassInfo) → IsTrue (option_map_or (λ (c : ClassInfo). c.is_component) r false) → IsTrue (not (option_map_or (λ (c : ClassInfo). c.is_abstract) r false)) → IsTrue (option_map_or (λ (c : ClassInfo). c.is_component && not c.is_abstract) r false)
  by_class None component concrete = component
  by_class (Some c) component concrete = both c.is_component (not c.is_abstract) component concrete
    where
      both : (a b : Bool) → IsTrue a → IsTrue b → IsTrue (a && b)
      both true true a b = refl
      both true false a b = b
      both false b a h = a

  first_of_three : (a b c : Bool) → IsTrue (a && b && c) → IsTrue a
  first_of_three true b c h = refl
  first_of_three false b c h = absurd (let no : false ≡ true = h in cc)

  pub creatable_class : (class : ℕ) → IsTrue (is_for_components m class) → IsTrue (not (is_abstract_class m class)) → IsTrue (is_creatable m class)
  creatable_class class component concrete = by_class (slice_get m.schema.classes class) (first_of_three _ _ _ component) concrete

  class_of : (r s : Option ClassInfo) → r ≡ s → (P : ClassInfo → Type 0) → IsSomeAnd r P → (c : ClassInfo) × (s ≡ Some c) × P c
  class_of r None is P h = absurd (subst (λ (r : Option ClassInfo). IsSomeAnd r P) is h)
  class_of r (Some c) is P h = (c, refl, subst (λ (r : Option ClassInfo). IsSomeAnd r P) is h)

  -- the App's class, as `sys` has it
  abbrev IsAppClass : ClassInfo → Type 0
  IsAppClass = IsSysType m.schema.classes (codes "App") (Some 2) false true 4 (meta_slot ∷ save_slot ∷ [])

  pub app_creatable : (class : ℕ) → class_numbered m.schema.classes 0 app_type ≡ Some class → IsTrue (is_creatable m class)
  app_creatable class is =
      let known = subst (λ (r : Option ℕ). IsSomeAnd r (λ class. IsSomeAnd (slice_get m.schema.classes class) IsAppClass)) is code.tables.names.types.app in
      let info = class_of (slice_get m.schema.classes class) (slice_get m.schema.classes class) refl IsAppClass known in
      subst (λ (r : Option ClassInfo). IsTrue (option_map_or (λ (c : ClassInfo). c.is_component && not c.is_abstract) r false)) (sym info.1)
      (made info.0.is_component info.0.is_abstract info.2.is_component info.2.is_abstract)
    where
      made : (a b : Bool) → a ≡ true → b ≡ false → IsTrue (a && not b)
      made true false h g = refl
      made true true h g = absurd cc
      made false b h g = absurd cc

  module _ (a : Application) (whole : Whole m a) where
    creatable : (id : ℕ) (c : Component) → map.get a.components.by_id id ≡ Some c → IsTrue (is_creatable m c.class)
    creatable id c there = elim (cases_eq id 0) [
      | inl e ↦
          let app = some_is (map.get a.components.by_id 0) (IsApp m) whole.formed.app in
          let one : app.0 ≡ c = some_one app.0 c (sym app.1 ∙ ap (map.get a.components.by_id) (sym e) ∙ there) in
          app_creatable c.class ((subst (IsApp m) one app.2).class)
      | inr ne ↦
          let other = here (λ (c : Component). 0 < id → IsOther m c) (map.get a.components.by_id id) c there (whole.formed.others id) (omega arith) in
          creatable_class c.class other.component other.concrete
    ]
      where
        some_one : (x y : Component) → ◌≡◌ {A = Option Component} (Some x) (Some y) → x ≡ y
        some_one x y e = cc

    pub object_fits : (id : ℕ) (c : Component) → map.get a.components.by_id id ≡ Some c → IsObject m (object_of c)
    object_fits id c there = record {
      creatable = creatable id c there;
      fits = here (λ (c : Component). Fits m.fields (m.fields c.class) (m.initial c.class) c.contents) (map.get a.components.by_id id) c there (whole.formed.values id);
    }

    objects_fit : (id : ℕ) → IfSome (map.get a.components.by_id id) (λ (c : Component). IsObject m (object_of c))
    objects_fit id = by_component (map.get a.components.by_id id) refl
      where
        by_component : (r : Option Component) → map.get a.components.by_id id ≡ r → IfSome r (λ (c : Component). IsObject m (object_of c))
        by_component None there = tt {0}
        by_component (Some c) there = object_fits id c there

    -- ---- a root call

    module _ (id : ℕ) (which : Root) (argument : Value) (turns : ℕ) (moment : ℤ) where
      ran : (c : Component) → map.get a.components.by_id id ≡ Some c → (b : Bool)
          → Whole m (over a (if b then ended a.components id c (root_of m (object_of c) a.components.statics which argument turns moment) else not_run a.components turns).left)
      ran c there false = whole
      ran c there true =
          let q : Question = asked_of (object_of c) a.components.statics which argument turns moment in
          let fits = whole_leaves m code q (here (λ (c : Component). Fits m.fields (m.fields c.class) (m.initial c.class) c.contents) (map.get a.components.by_id id) c there (whole.formed.values id)) whole.formed.statics in
          whole_put m a whole id c (with_end c (m.root q)) there refl refl refl refl fits.0 (fault_fits q) (m.root q).statics fits.1

      ran_if : (r : Option Component) → map.get a.components.by_id id ≡ r
          → Whole m (over a (option_map_or (λ (c : Component). if c.fault == 0 then ended a.components id c (root_of m (object_of c) a.components.statics which argument turns moment) else not_run a.components turns) r (not_run a.components turns)).left)
      ran_if None there = whole
      ran_if (Some c) there = ran c there (c.fault == 0)

      pub whole_run : Whole m (over a (run_at m a.components id which argument turns moment).left)
      whole_run = ran_if (map.get a.components.by_id id) refl

    -- ---- a store, of what may be stored

    module _ (stored : (o : Object) (slot : ℕ) (v : Value) → IsObject m o → IsTrue (may_store m o.class slot v) → IsObject m (with_slot m o slot v)) where
      put_value : (id slot : ℕ) (v : Value) (r : Option Component) → map.get a.components.by_id id ≡ r → IsSomeAnd r (λ (c : Component). IsTrue (may_store m c.class slot v))
          → Whole m (over a (record { by_id = option_map_or (λ (c : Component). map.insert a.components.by_id id (with_value m slot v c)) r a.components.by_id; statics = a.components.statics; limit = a.components.limit }))
      put_value id slot v None there may = whole
      put_value id slot v (Some c) there may =
          whole_put m a whole id c (with_value m slot v c) there refl refl refl refl (stored (object_of c) slot v (object_fits id c there) may).fits
          (here (λ (c : Component). c.fault ≤ 5) (map.get a.components.by_id id) c there (whole.formed.faults id)) a.components.statics whole.formed.statics

      pub whole_store : (id slot : ℕ) (v : Value) → IsSomeAnd (map.get a.components.by_id id) (λ (c : Component). IsTrue (may_store m c.class slot v)) → Whole m (over a (store m a.components id slot v))
      whole_store id slot v may = put_value id slot v (map.get a.components.by_id id) refl may

      pub whole_copy : (l : Link) → IsLink m a.components.by_id l → Whole m (over a (copy m a.components l))
      whole_copy l is = whole_store l.to l.to_slot (value_at m a.components.by_id l.from l.from_slot) (may_be_copied m a.components.by_id code.tables objects_fit l.from l.from_slot l.to l.to_slot is.typed)
