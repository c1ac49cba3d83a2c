-- The forms of fields and the kinds of parameters and results, in classes that break no rule.
use Rattle.std.proofs.Common.{◌≡◌, ◌<◌, ◌+◌, ◌&&◌, ◌||◌, ℕ, Bool, true, false, not, if◌then◌else◌, List, [], ◌++◌, length, Option, Some, None, refl, ap, ◌∙◌, arith}
use Rattle.std.specs.Option.{option_map}
use Rattle.sed_value.specs.declared.slot_type.Primitive.{Primitive}
use Rattle.sed_value.specs.declared.slot_type.Primitive.TheVariants as prim
use Rattle.sed_units.specs.declared.leaves.Param.{Param}
use Rattle.sed_units.specs.declared.classes.Member.{Member}
use Rattle.sed_typed.specs.declared.kind.Kind.{Kind}
use Rattle.sed_typed.specs.declared.kind.Kind.TheVariants as kind
use Rattle.sed_typed.specs.declared.program.FieldForm.{FieldForm}
use Rattle.sed_typed.specs.declared.program.FieldForm.TheVariants as form
use Rattle.sed_typed.specs.declared.program.Program.{Program}
use Rattle.sed_typed.specs.Typed.{IsStorable}
use Rattle.sed_typed.specs.TypedExpr.{IsKindOf}
use Rattle.sed_classes.specs.declared.kit_units.KitUnits.{KitUnits}
use Rattle.sed_classes.specs.declared.source_type.SourceType.{SourceType}
use Rattle.sed_classes.specs.declared.source_type.SourceType.TheVariants as type
use Rattle.sed_classes.specs.Declarations.{Declaration}
use Rattle.sed_classes.specs.Members.{is_method, is_property}
use Rattle.sed_classes.specs.MemberRules.{is_no_property_type, is_slot_elsewhere, is_wrong_action, is_wrong_property}
use Rattle.sed_classes.specs.NameRules.{type_without_class}
use Rattle.sed_classes.specs.FieldRules.{have_words_apart, is_no_field, is_no_result, is_not_storable, param_not_fit}
use Rattle.sed_classes.specs.LimitRules.{too_long_in_param, too_many_params}
use Rattle.sed_classes.specs.Faults.{param_faults}
use Rattle.sed_classes.specs.Objects.{is_inline}
use Rattle.sed_classes.specs.Types.{is_field_type, is_kept, is_property_type, is_storable, is_unknown, is_void, type_of}
use Rattle.sed_program.specs.Types.{form_of, form_of_type, kind_of_type, number_of, param_kind, primitive_kind, result_kind, result_of_type, type_no}
use Rattle.sed_program.specs.Ordered.{IsOrdered, number, places}
use Rattle.sed_member_laws.specs.Faultless.{Keeps}
use Rattle.sed_member_laws.proofs.Empty.{none_left, none_right, not_broken}
use Rattle.sed_member_laws.proofs.KnownTypes.{is_known, object_there}
use Rattle.sed_member_laws.proofs.Own.{or_left, or_right}

-- ---- the number of a class that is there

pub numbered_class : (units : List KitUnits) (program : Program) → IsOrdered units program → (c : ℕ) →
    c < places units →
    number_of units c ≡ Some (type_no (number units c))
numbered_class units program o c h = ap (option_map type_no) (o.number_is c h)

-- ---- fields

-- a type of fields
abbrev IsFieldType : SourceType → Type 0
IsFieldType type.Void = ⊥
IsFieldType (type.Prim p) = Unit {0}
IsFieldType type.Text = ⊥
IsFieldType (type.SizedText n) = Unit {0}
IsFieldType (type.Buf n) = Unit {0}
IsFieldType (type.Array p n) = Unit {0}
IsFieldType (type.Object c) = Unit {0}
IsFieldType type.Unknown = ⊥
IsFieldType type.Outside = ⊥

property_field : (t : SourceType) → is_property_type t ≡ true → IsFieldType t
property_field type.Void e = cc
property_field (type.Prim p) e = tt
property_field type.Text e = cc
property_field (type.SizedText n) e = cc
property_field (type.Buf n) e = tt
property_field (type.Array p n) e = cc
property_field (type.Object c) e = cc
property_field type.Unknown e = cc
property_field type.Outside e = cc

plain_field : (inline : Bool) (t : SourceType) → is_field_type inline t ≡ true → IsFieldType t
plain_field inline type.Void e = cc
plain_field inline (type.Prim p) e = tt
plain_field inline type.Text e = cc
plain_field inline (type.SizedText n) e = tt
plain_field inline (type.Buf n) e = cc
plain_field inline (type.Array p n) e = tt
plain_field inline (type.Object c) e = tt
plain_field inline type.Unknown e = cc
plain_field inline type.Outside e = cc

field_form : (units : List KitUnits) (program : Program) → IsOrdered units program → (t : SourceType) → IsFieldType t →
    ((c : ℕ) → t ≡ type.Object c → c < places units) → (x : FieldForm) × (form_of_type units t ≡ Some x)
field_form units program o type.Void f h = absurd f
field_form units program o (type.Prim p) f h = (form.Prim p, refl)
field_form units program o type.Text f h = absurd f
field_form units program o (type.SizedText n) f h = (form.Str n, refl)
field_form units program o (type.Buf n) f h = (form.Buf n, refl)
field_form units program o (type.Array p n) f h = (form.Array p n, refl)
field_form units program o (type.Object c) f h =
    (form.Object (type_no (number units c)), ap (option_map form.Object) (numbered_class units program o c (h c refl)))
field_form units program o type.Unknown f h = absurd f
field_form units program o type.Outside f h = absurd f

-- what is no fault of fields
pub four : (a b c d : Bool) → (not a && not b && not c && not d) ≡ false → a ≡ false → b ≡ false → c ≡ false → d ≡ true
four true b c d e p q r = cc
four false true c d e p q r = cc
four false false true d e p q r = cc
four false false false true e p q r = refl
four false false false false e p q r = cc

two : (a b : Bool) → (not a && not b) ≡ false → a ≡ false → b ≡ true
two true b e p = cc
two false true e p = refl
two false false e p = cc

last_of_and : (a b : Bool) → (a && b) ≡ false → a ≡ true → b ≡ false
last_of_and true b e p = e
last_of_and false b e p = cc

pub known_type : (units : List KitUnits) (c : ℕ) (d : Declaration) (i : ℕ) (m : Member) → Keeps units c d i m →
    is_unknown (type_of units d.kit m.kind) ≡ false
known_type units c d i m k = is_known units d.kit m.kind k.known

pub property_type : (units : List KitUnits) (c : ℕ) (d : Declaration) (i : ℕ) (m : Member) → Keeps units c d i m →
    is_property m ≡ true →
    is_property_type (type_of units d.kit m.kind) ≡ true
property_type units c d i m k p =
    two
    (is_unknown (type_of units d.kit m.kind))
    (is_property_type (type_of units d.kit m.kind))
    (last_of_and
    (is_property m)
    (is_no_property_type (type_of units d.kit m.kind))
    (or_right
    (is_slot_elsewhere units c m)
    (is_wrong_property units d.kit m)
    (or_left
    (is_slot_elsewhere units c m || is_wrong_property units d.kit m)
    (is_wrong_action units d.kit m)
    k.slot))
    p)
    (known_type units c d i m k)

pub field_type : (units : List KitUnits) (c : ℕ) (d : Declaration) (i : ℕ) (m : Member) → Keeps units c d i m →
    is_method m ≡ false → is_property m ≡ false →
    is_field_type (is_inline m) (type_of units d.kit m.kind) ≡ true
field_type units c d i m k no_method no_property =
    four
    (is_method m)
    (is_property m)
    (is_unknown (type_of units d.kit m.kind))
    (is_field_type (is_inline m) (type_of units d.kit m.kind))
    (or_left
    (is_no_field (type_of units d.kit m.kind) m)
    (is_no_result (type_of units d.kit m.kind) m)
    (or_left
    (is_no_field (type_of units d.kit m.kind) m || is_no_result (type_of units d.kit m.kind) m)
    (have_words_apart m)
    k.fit))
    no_method
    no_property
    (known_type units c d i m k)

pub words_apart : (units : List KitUnits) (c : ℕ) (d : Declaration) (i : ℕ) (m : Member) → Keeps units c d i m →
    have_words_apart m ≡ false
words_apart units c d i m k =
    or_right
    (is_no_field (type_of units d.kit m.kind) m || is_no_result (type_of units d.kit m.kind) m)
    (have_words_apart m)
    k.fit

-- a field has a form, and it is that of its type
pub form_is : (units : List KitUnits) (c : ℕ) (d : Declaration) (i : ℕ) (m : Member) → Keeps units c d i m →
    is_method m ≡ false →
    IsFieldType (type_of units d.kit m.kind) × (form_of units d.kit m ≡ form_of_type units (type_of units d.kit m.kind))
form_is units c d i m k no_method = by_test (is_property m) refl
  where
    by_test : (b : Bool) → is_property m ≡ b →
        IsFieldType (type_of units d.kit m.kind)
        × ((if (if b then is_property_type (type_of units d.kit m.kind)
        else is_field_type (is_inline m) (type_of units d.kit m.kind))
        then form_of_type units (type_of units d.kit m.kind) else None)
        ≡ form_of_type units (type_of units d.kit m.kind))
    by_test true p =
        let e : is_property_type (type_of units d.kit m.kind) ≡ true = property_type units c d i m k p in (
          property_field (type_of units d.kit m.kind) e,
          ap (λ b. if b then form_of_type units
              (type_of units d.kit m.kind) else None) e,
        )
    by_test false p =
        let e : is_field_type (is_inline m) (type_of units d.kit m.kind)
        ≡ true = field_type units c d i m k no_method p in (
          plain_field (is_inline m) (type_of units d.kit m.kind) e,
          ap (λ b. if b then form_of_type units
              (type_of units d.kit m.kind) else None) e,
        )

pub form_some : (units : List KitUnits) (program : Program) → IsOrdered units program →
    (c : ℕ) (d : Declaration) (i : ℕ) (m : Member) →
    Keeps units c d i m → is_method m ≡ false → (x : FieldForm) × (form_of units d.kit m ≡ Some x)
form_some units program o c d i m k no_method =
    let is = form_is units c d i m k no_method in
    let found = field_form units program o (type_of units d.kit m.kind) is.0
    (λ b e. object_there units d.kit m.kind b e) in
    (found.0, is.1 ∙ found.1)

-- ---- kinds

-- a class of a kind is a program's
pub class_in_program : (units : List KitUnits) (program : Program) → IsOrdered units program → (c : ℕ) →
    c < places units →
    number units c < length program.schema.classes
class_in_program units program o c h = omega (arith, o.number_in c h, o.infos_len)

abbrev IsSomeKind : Program → Option Kind → Type 0
IsSomeKind program o = (k : Kind) × (o ≡ Some k) × IsStorable program k

kept_kind : (program : Program) (p : Primitive) → is_kept p ≡ true → IsSomeKind program (primitive_kind p)
kept_kind program prim.Bool e = (kind.Bool, refl, tt)
kept_kind program prim.Byte e = cc
kept_kind program prim.Short e = cc
kept_kind program prim.Int e = (kind.Int, refl, tt)
kept_kind program prim.Long e = (kind.Long, refl, tt)

stored_kind : (units : List KitUnits) (program : Program) → IsOrdered units program → (t : SourceType) →
    is_storable t ≡ true →
    ((c : ℕ) → t ≡ type.Object c → c < places units) → IsSomeKind program (kind_of_type units t)
stored_kind units program o type.Void e h = cc
stored_kind units program o (type.Prim p) e h = kept_kind program p e
stored_kind units program o type.Text e h = (kind.Text, refl, tt)
stored_kind units program o (type.SizedText n) e h = cc
stored_kind units program o (type.Buf n) e h = cc
stored_kind units program o (type.Array p n) e h = cc
stored_kind units program o (type.Object c) e h = (
  kind.Object (type_no (number units c)),
  ap (option_map kind.Object) (numbered_class units program o c (h c refl)),
  class_in_program units program o c (h c refl),
)
stored_kind units program o type.Unknown e h = cc
stored_kind units program o type.Outside e h = cc

pub storable_kind : (program : Program) (k : Kind) → IsStorable program k → IsKindOf program k
storable_kind program kind.Void s = absurd s
storable_kind program kind.Bool s = tt
storable_kind program kind.Int s = tt
storable_kind program kind.Long s = tt
storable_kind program kind.Text s = tt
storable_kind program (kind.Object t) s = s

-- ---- parameters

param_none : (units : List KitUnits) (kit i : ℕ) (p : Param) → param_faults units kit i p ≡ [] →
    (type_without_class units kit p.kind ≡ []) × (is_not_storable (type_of units kit p.kind) ≡ false)
param_none units kit i p e =
    let front : type_without_class units kit p.kind ++ param_not_fit units kit p ≡ [] =
    none_left
    (type_without_class units kit p.kind ++ param_not_fit units kit p)
    (too_many_params i p)
    (none_left
    (type_without_class units kit p.kind ++ param_not_fit units kit p ++ too_many_params i p)
    (too_long_in_param p)
    e) in (
      none_left (type_without_class units kit p.kind) (param_not_fit units kit p) front,
      not_broken
          (is_not_storable (type_of units kit p.kind))
          10
          p.at
          (none_right (type_without_class units kit p.kind) (param_not_fit units kit p) front),
    )

pub param_storable : (units : List KitUnits) (kit i : ℕ) (p : Param) → param_faults units kit i p ≡ [] →
    is_storable (type_of units kit p.kind) ≡ true
param_storable units kit i p e =
    let n = param_none units kit i p e in
    two (is_unknown (type_of units kit p.kind)) (is_storable (type_of units kit p.kind)) n.1
    (is_known units kit p.kind n.0)

pub param_stored : (units : List KitUnits) (program : Program) → IsOrdered units program → (kit i : ℕ) (p : Param) →
    param_faults units kit i p ≡ [] →
    (k : Kind) × (param_kind units kit p ≡ Some k) × IsStorable program k
param_stored units program o kit i p e =
    let n = param_none units kit i p e in
    stored_kind
    units
    program
    o
    (type_of units kit p.kind)
    (two (is_unknown (type_of units kit p.kind)) (is_storable (type_of units kit p.kind)) n.1
    (is_known units kit p.kind n.0))
    (λ c h. object_there units kit p.kind c h)

-- ---- results

abbrev IsSomeResult : Program → Option Kind → Type 0
IsSomeResult program o = (k : Kind) × (o ≡ Some k) × IsKindOf program k

pub result_of_stored : (units : List KitUnits) (t : SourceType) → is_storable t ≡ true →
    result_of_type units t ≡ kind_of_type units t
result_of_stored units type.Void e = cc
result_of_stored units (type.Prim p) e = refl
result_of_stored units type.Text e = refl
result_of_stored units (type.SizedText n) e = refl
result_of_stored units (type.Buf n) e = refl
result_of_stored units (type.Array p n) e = refl
result_of_stored units (type.Object c) e = refl
result_of_stored units type.Unknown e = refl
result_of_stored units type.Outside e = refl

void_result : (units : List KitUnits) (t : SourceType) → is_void t ≡ true → result_of_type units t ≡ Some kind.Void
void_result units type.Void e = refl
void_result units (type.Prim p) e = cc
void_result units type.Text e = cc
void_result units (type.SizedText n) e = cc
void_result units (type.Buf n) e = cc
void_result units (type.Array p n) e = cc
void_result units (type.Object c) e = cc
void_result units type.Unknown e = cc
void_result units type.Outside e = cc

pub void_or_stored : (units : List KitUnits) (c : ℕ) (d : Declaration) (i : ℕ) (m : Member) → Keeps units c d i m →
    is_method m ≡ true →
    is_void (type_of units d.kit m.kind) ≡ false → is_storable (type_of units d.kit m.kind) ≡ true
void_or_stored units c d i m k is no_void =
    by_tests
    (is_method m)
    (is_unknown (type_of units d.kit m.kind))
    (is_void (type_of units d.kit m.kind))
    (is_storable (type_of units d.kit m.kind))
    (or_right
    (is_no_field (type_of units d.kit m.kind) m)
    (is_no_result (type_of units d.kit m.kind) m)
    (or_left
    (is_no_field (type_of units d.kit m.kind) m || is_no_result (type_of units d.kit m.kind) m)
    (have_words_apart m)
    k.fit))
    is
    (known_type units c d i m k)
    no_void
  where
    by_tests : (a b v s : Bool) → (a && not b && not v && not s) ≡ false → a ≡ true → b ≡ false → v ≡ false → s ≡ true
    by_tests false b v s e p q r = cc
    by_tests true true v s e p q r = cc
    by_tests true false true s e p q r = cc
    by_tests true false false true e p q r = refl
    by_tests true false false false e p q r = cc

pub result_some : (units : List KitUnits) (program : Program) → IsOrdered units program →
    (c : ℕ) (d : Declaration) (i : ℕ) (m : Member) →
    Keeps units c d i m → is_method m ≡ true → (k : Kind) × (result_kind units d.kit m ≡ Some k) × IsKindOf program k
result_some units program o c d i m k is = by_test (is_void (type_of units d.kit m.kind)) refl
  where
    by_test : (b : Bool) → is_void (type_of units d.kit m.kind) ≡ b → IsSomeResult program (result_kind units d.kit m)
    by_test true v = (kind.Void, void_result units (type_of units d.kit m.kind) v, tt)
    by_test false v =
        let s : is_storable (type_of units d.kit m.kind) ≡ true = void_or_stored units c d i m k is v in
        let found = stored_kind units program o (type_of units d.kit m.kind) s
        (λ b h. object_there units d.kit m.kind b h) in (
          found.0,
          result_of_stored units (type_of units d.kit m.kind) s
              ∙ found.1,
          storable_kind program found.0 found.2,
        )
