-- What a property of an object holds whose contents fit.
use Rattle.std.proofs.Common.{ℕ, ◌≡◌, Bool, true, false, refl, sym, ◌∙◌, ap, subst}
use Rattle.std.specs.Prelude.{Option, Some, None, IsTrue, IsSome, IsSomeAnd, IfSome, is_some, [], ◌∷◌, map, ◌&&◌, ◌||◌, if◌then◌else◌}
use Rattle.std.specs.Option.{option_map_or}
use Rattle.std.specs.List.{list_any}
use Rattle.std.specs.Str.{bytes_eq}
use Rattle.std.proofs.lemmas.Slice.Eq.{bytes_eq-Decides}
use Rattle.sed_value.specs.Value.{is_of_type}
use Rattle.sed_value.specs.declared.slot_type.SlotType.{SlotType}
use Rattle.sed_value.specs.declared.slot_type.SlotType.TheVariants.{Prim, Buf}
use Rattle.sed_value.specs.declared.value.Value.{Value}
use Rattle.sed_value.specs.declared.value.Value.TheVariants as kept
use Rattle.sed_value.proofs.Options.{some_and}
use Rattle.sed_typed.specs.declared.program.FieldForm.{FieldForm}
use Rattle.sed_typed.specs.Contents.{Contents, Path, value_at}
use Rattle.sed_engine.specs.Code.{Meaning, Object, slot_path, slot_type, slot_value}
use Rattle.sed_engine.specs.Fits.{Fits, all_kept, form_at, form_of, is_kept, keeps}
use Rattle.sed_engine.specs.Whole.{HasTables, field_form}

no : {P : Type 0} → false ≡ true → P
no e = let never : ⊥ = cc in absurd never

-- a path is there or not by the paths alone
pub has_path : (es : Contents) (p : Path) → is_some (value_at es p) ≡ list_any (λ q. bytes_eq q p) (map (λ e. e.0) es)
has_path [] p = refl
has_path (e ∷ es) p = by_test (bytes_eq e.0 p) (has_path es p)
  where
    by_test : (b : Bool) → is_some (value_at es p) ≡ list_any (λ q. bytes_eq q p) (map (λ e. e.0) es)
        → is_some (if b then Some e.1 else value_at es p) ≡ (b || list_any (λ q. bytes_eq q p) (map (λ e. e.0) es))
    by_test true rest = refl
    by_test false rest = rest

-- what is kept at a path is such as the form there keeps
pub kept_at : (form : Path → Option FieldForm) (es : Contents) (p : Path) (v : Value) → IsTrue (all_kept form es) → value_at es p ≡ Some v → IsTrue (is_kept (form p) v)
kept_at form [] p v all at = absurd (let never : ◌≡◌ {A = Option Value} None (Some v) = at in cc)
kept_at form (e ∷ es) p v all at = by_test (bytes_eq e.0 p) refl (is_kept (form e.0) e.1) refl all at (kept_at form es p v)
  where
    by_test : (b : Bool) → bytes_eq e.0 p ≡ b → (k : Bool) → is_kept (form e.0) e.1 ≡ k → (k && all_kept form es) ≡ true
        → (if b then Some e.1 else value_at es p) ≡ Some v → (IsTrue (all_kept form es) → value_at es p ≡ Some v → IsTrue (is_kept (form p) v))
        → IsTrue (is_kept (form p) v)
    by_test true same true is all at later =
        let value : e.1 ≡ v = cc in
        subst (λ q. IsTrue (is_kept (form q) v)) ((bytes_eq-Decides e.0 p).0 same) (subst (λ v. IsTrue (is_kept (form e.0) v)) value is)
    by_test true same false is all at later = no all
    by_test false same true is all at later = later all at
    by_test false same false is all at later = no all

-- the value in a property is of its type
module _ (m : Meaning) (o : Object) (slot : ℕ) (t : SlotType) (tables : HasTables m) (fits : Fits m.fields (m.fields o.class) (m.initial o.class) o.contents) (is : slot_type m o.class slot ≡ Some t) where
  field : (i : ℕ) × (m.slot_field o.class slot ≡ Some i) × (form_at (m.fields o.class) i ≡ Some (field_form t))
  field = some_and (m.slot_field o.class slot) (subst (λ (s : Option SlotType). IfSome s (λ t. IsSomeAnd (m.slot_field o.class slot) (λ i. form_at (m.fields o.class) i ≡ Some (field_form t)))) is (tables.slot_fields o.class slot))

  path_is : slot_path m o.class slot ≡ field.0 ∷ []
  path_is = ap (λ s. option_map_or (λ i. i ∷ []) s []) field.1

  first : IsSome (value_at (m.initial o.class) (slot_path m o.class slot))
  first = subst (λ (s : Option SlotType). IfSome s (λ t. IsSome (value_at (m.initial o.class) (slot_path m o.class slot)))) is (tables.values o.class slot)

  there : is_some (value_at o.contents (slot_path m o.class slot)) ≡ is_some (value_at (m.initial o.class) (slot_path m o.class slot))
  there =
      has_path o.contents (slot_path m o.class slot)
      ∙ ap (λ paths. list_any (λ q. bytes_eq q (slot_path m o.class slot)) paths) fits.paths
      ∙ sym (has_path (m.initial o.class) (slot_path m o.class slot))

  pub value : (v : Value) × (value_at o.contents (slot_path m o.class slot) ≡ Some v)
  value = found (value_at o.contents (slot_path m o.class slot)) refl (value_at (m.initial o.class) (slot_path m o.class slot)) first there
    where
      found : (s : Option Value) → value_at o.contents (slot_path m o.class slot) ≡ s → (f : Option Value) → IsSome f → is_some s ≡ is_some f
          → (v : Value) × (value_at o.contents (slot_path m o.class slot) ≡ Some v)
      found (Some v) at f some same = (v, at)
      found None at (Some v) some same = no same
      found None at None some same = no some

  of_form : (t : SlotType) (v : Value) → IsTrue (keeps (field_form t) v) → IsTrue (is_of_type t v)
  of_form (Prim p) v h = h
  of_form (Buf n) v h = h

  form_is : form_of m.fields (m.fields o.class) (slot_path m o.class slot) ≡ Some (field_form t)
  form_is = ap (form_of m.fields (m.fields o.class)) path_is ∙ below (form_at (m.fields o.class) field.0) field.2
    where
      below : (f : Option FieldForm) → f ≡ Some (field_form t) → form_of m.fields (m.fields o.class) (field.0 ∷ []) ≡ Some (field_form t)
      below f e = rw (field.2) refl

  pub property_is_of_type : IsTrue (is_of_type t (slot_value m o slot))
  property_is_of_type =
      subst (λ v. IsTrue (is_of_type t v)) (sym (ap (λ s. option_map_or (λ v. v) s kept.Nothing) value.1))
      (of_form t value.0
      (subst (λ f. IsTrue (is_kept f value.0)) form_is
      (kept_at (form_of m.fields (m.fields o.class)) o.contents (slot_path m o.class slot) value.0 fits.values value.1)))
