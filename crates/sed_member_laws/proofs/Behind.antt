-- The members behind the methods and fields of a program.
use Rattle.std.proofs.Common.{◌≡◌, ◌<◌, ◌+◌, ℕ, zero, suc, Bool, true, false, if◌then◌else◌, List, [], ◌∷◌, map, slice_get, Option, Some, None, IfSome, refl, sym, ap, ◌∙◌, subst, arith}
use Rattle.std.specs.List.{enumerate_from, filter_map}
use Rattle.std.specs.Option.{option_map}
use Rattle.sed_typed.specs.declared.kind.Kind.{Kind}
use Rattle.sed_typed.specs.declared.kind.Kind.TheVariants as kind
use Rattle.sed_typed.specs.declared.program.Field.{Field}
use Rattle.sed_typed.specs.declared.program.FieldForm.{FieldForm}
use Rattle.sed_typed.specs.declared.program.FieldForm.TheVariants as form
use Rattle.sed_typed.specs.declared.program.Method.{Method}
use Rattle.sed_typed.specs.declared.program.Program.{Program}
use Rattle.sed_typed.specs.TypedExpr.{IsKindOf, part_kind}
use Rattle.sed_units.specs.declared.classes.Member.{Member}
use Rattle.sed_classes.specs.declared.kit_units.KitUnits.{KitUnits}
use Rattle.sed_classes.specs.declared.source_type.SourceType.{SourceType}
use Rattle.sed_classes.specs.declared.source_type.SourceType.TheVariants as type
use Rattle.sed_classes.specs.Members.{is_method, kit_of, members_of, owned}
use Rattle.sed_classes.specs.Objects.{has_form}
use Rattle.sed_classes.specs.Schema.{class_order}
use Rattle.sed_classes.specs.Types.{type_of}
use Rattle.sed_program.specs.Fields.{a_field, all_fields, field_of}
use Rattle.sed_program.specs.Methods.{methods_in, methods_of, own_methods}
use Rattle.sed_program.specs.Outlined.{IsHead, IsOutlined}
use Rattle.sed_program.specs.Types.{form_of, form_of_type, result_kind, type_no}
use Rattle.sed_program.specs.Ordered.{IsOrdered, number, places}
use Rattle.sed_member_laws.specs.Faultless.{AreFree, Keeps}
use Rattle.sed_member_laws.proofs.Fit.{class_in_program, numbered_class, result_some}
use Rattle.sed_member_laws.proofs.Flat.{filtered_in, flat_in, given_in, numbered_in, some_is}
use Rattle.sed_member_laws.proofs.KnownTypes.{object_there}
use Rattle.sed_member_laws.proofs.Own.{member_kept}
use Rattle.sed_member_laws.proofs.Heads.{headed}

-- ---- the member behind a method of a program

pub record From (units : List KitUnits) (m : Method) : Type 0 where
  pub class : ℕ
  pub at : ℕ
  pub member : Member
  pub there : slice_get (members_of units class) at ≡ Some member
  pub method : is_method member ≡ true
  pub number : ℕ
  pub placed : slice_get (class_order units) number ≡ Some class
  pub head : IsHead units (record { class = number; owned = owned class (kit_of units class) member }) m

pub declared_by : (units : List KitUnits) (program : Program) → IsOutlined units program → (n : ℕ) (m : Method) →
    slice_get program.methods n ≡ Some m → From units m
declared_by units program p n m e =
    let h = headed units (methods_of units) program.methods p.methods n m e in
    let flat = flat_in (methods_in units) (enumerate_from 0 (class_order units)) n h.0 h.1 in
    let place = numbered_in 0 (class_order units) flat.0 flat.2 flat.3 in
    let own = mapped_in (λ (x : Member). record { class = flat.2.0; owned = owned flat.2.1 (kit_of units flat.2.1) x })
    (own_methods units flat.2.1) flat.1 h.0 flat.4 in
    let there = filtered_in is_method (members_of units flat.2.1) flat.1 own.0 own.1 in
    let at : 0 + flat.0 ≡ flat.0 = omega arith in
    record {
      class = flat.2.1;
      at = there.0;
      member = own.0;
      there = there.1;
      method = there.2;
      number = flat.2.0;
      placed = ap (slice_get (class_order units)) (place.0 ∙ at) ∙ place.1;
      head = subst (λ x. IsHead units x m) (sym own.2) h.2;
    }
  where
    mapped_in : {X Y : Type 0} (f : X → Y) (xs : List X) (i : ℕ) (y : Y) → slice_get (map f xs) i ≡ Some y →
        (x : X) × (slice_get xs i ≡ Some x) × (f x ≡ y)
    mapped_in f [] i y e = cc
    mapped_in f (x ∷ xs) zero y e = (x, refl, some_is (f x) y e)
    mapped_in f (x ∷ xs) (suc i) y e = mapped_in f xs i y e

pub results_agree : (units : List KitUnits) (program : Program) → AreFree units → IsOrdered units program →
    IsOutlined units program → (n : ℕ) →
    IfSome (slice_get program.methods n) (λ (x : Method). IsKindOf program x.result)
results_agree units program f o p n = by_found (slice_get program.methods n) refl
  where
    by_found : (r : Option Method) → slice_get program.methods n ≡ r →
        IfSome r (λ (x : Method). IsKindOf program x.result)
    by_found None e = tt
    by_found (Some m) e =
        let d = declared_by units program p n m e in
        let k = member_kept units f d.class d.at d.member d.there in
        let keeps : Keeps units d.class k.0 d.at d.member = k.3 in
        let result = result_some units program o d.class k.0 d.at d.member keeps d.method in
        let same : result.0 ≡ m.result =
        some_is result.0 m.result (sym result.1 ∙ sym (ap (λ kit. result_kind units kit d.member) k.2)
        ∙ sym d.head.result) in
        subst (IsKindOf program) same result.2

-- ---- the classes of forms

object_class : (units : List KitUnits) (program : Program) → IsOrdered units program →
    (t : SourceType) (x : FieldForm) →
    ((c : ℕ) → t ≡ type.Object c → c < places units) → form_of_type units t ≡ Some x → (k : Kind) →
    part_kind x ≡ Some k → IsKindOf program k
object_class units program o type.Void x h e k g = cc
object_class units program o (type.Prim p) x h e k g =
    let clash : None ≡ Some k = ap part_kind (some_is (form.Prim p) x e) ∙ g in cc
object_class units program o type.Text x h e k g = cc
object_class units program o (type.SizedText n) x h e k g =
    let same : kind.Text ≡ k = some_is kind.Text k (ap part_kind (some_is (form.Str n) x e) ∙ g) in
    subst (IsKindOf program) same tt
object_class units program o (type.Buf n) x h e k g =
    let clash : None ≡ Some k = ap part_kind (some_is (form.Buf n) x e) ∙ g in cc
object_class units program o (type.Array p n) x h e k g =
    let clash : None ≡ Some k = ap part_kind (some_is (form.Array p n) x e) ∙ g in cc
object_class units program o (type.Object c) x h e k g =
    let is : Some (form.Object (type_no (number units c))) ≡ Some x =
    sym (ap (option_map form.Object) (numbered_class units program o c (h c refl))) ∙ e in
    let same : kind.Object (type_no (number units c)) ≡ k =
    some_is (kind.Object (type_no (number units c))) k (ap part_kind (some_is (form.Object (type_no
    (number units c))) x is) ∙ g) in
    subst (IsKindOf program) same (class_in_program units program o c (h c refl))
object_class units program o type.Unknown x h e k g = cc
object_class units program o type.Outside x h e k g = cc

pub part_there : (units : List KitUnits) (program : Program) → IsOrdered units program →
    (kit : ℕ) (m : Member) (x : FieldForm) → form_of units kit m ≡ Some x →
    (k : Kind) → part_kind x ≡ Some k → IsKindOf program k
part_there units program o kit m x e k g = by_test (has_form units kit m) e
  where
    by_test : (b : Bool) → (if b then form_of_type units (type_of units kit m.kind) else None) ≡ Some x →
        IsKindOf program k
    by_test true h = object_class units program o (type_of units kit m.kind) x
        (λ c s. object_there units kit m.kind c s) h k g
    by_test false h = cc

-- the member behind a field
pub record FieldFrom (units : List KitUnits) (own : ℕ → List Member) (x : Field) : Type 0 where
  pub class : ℕ
  pub at : ℕ
  pub member : Member
  pub there : slice_get (own class) at ≡ Some member
  pub number : ℕ
  pub placed : slice_get (class_order units) number ≡ Some class
  pub form : FieldForm
  pub has : form_of units (kit_of units class) member ≡ Some form
  pub is : a_field units number class member form ≡ x

pub field_from : (units : List KitUnits) (own : ℕ → List Member) (n : ℕ) (x : Field) →
    slice_get (all_fields units own) n ≡ Some x → FieldFrom units own x
field_from units own n x e =
    let flat = flat_in (λ (c : ℕ × ℕ). filter_map (field_of units c.0 c.1) (own c.1)) (enumerate_from 0
    (class_order units)) n x e in
    let place = numbered_in 0 (class_order units) flat.0 flat.2 flat.3 in
    let given = given_in (field_of units flat.2.0 flat.2.1) (own flat.2.1) flat.1 x flat.4 in
    let at : 0 + flat.0 ≡ flat.0 = omega arith in
    by_form flat.2.0 flat.2.1 given.0 given.1 given.2 (ap (slice_get (class_order units)) (place.0 ∙ at)
    ∙ place.1) (form_of units (kit_of units flat.2.1) given.1) refl given.3
  where
    by_form : (number class i : ℕ) (m : Member) → slice_get (own class) i ≡ Some m →
        slice_get (class_order units) number ≡ Some class →
        (o : Option FieldForm) → form_of units (kit_of units class) m ≡ o →
        option_map (a_field units number class m) o ≡ Some x → FieldFrom units own x
    by_form number class i m at placed None s g = cc
    by_form number class i m at placed (Some f) s g = record {
      class = class;
      at = i;
      member = m;
      there = at;
      number = number;
      placed = placed;
      form = f;
      has = s;
      is = some_is (a_field units number class m f) x g;
    }
