-- What a name means in a class, where it is no method: a field, a static or a define of the program.
use Rattle.std.proofs.Common.{◌≡◌, ◌&&◌, ℕ, Bool, true, false, not, if◌then◌else◌, List, slice_get, Option, Some, None, IfSome, IsSomeAnd, refl, sym, ap, ◌∙◌, subst}
use Rattle.std.specs.List.{find}
use Rattle.std.specs.Option.{option_and_then, option_map}
use Rattle.sed_typed.specs.declared.kind.Kind.TheVariants as kind
use Rattle.sed_typed.specs.declared.number.TypeNo.{TypeNo}
use Rattle.sed_typed.specs.declared.program.Field.{Field}
use Rattle.sed_typed.specs.declared.program.FieldForm.{FieldForm}
use Rattle.sed_typed.specs.declared.program.FieldForm.TheVariants as form
use Rattle.sed_typed.specs.Classes as typed
use Rattle.sed_typed.specs.TypedExpr.{Context, field_form, static_form}
use Rattle.sed_units.specs.declared.classes.Member.{Member}
use Rattle.sed_names.specs.declared.member.Member.TheVariants as member
use Rattle.sed_bodies.specs.Inside.{IsConstant, IsMember, IsNoBuf}
use Rattle.sed_classes.specs.declared.kit_units.KitUnits.{KitUnits}
use Rattle.sed_classes.specs.declared.source_type.SourceType.{SourceType}
use Rattle.sed_classes.specs.declared.source_type.SourceType.TheVariants as type
use Rattle.sed_classes.specs.Bases.{lineage}
use Rattle.sed_classes.specs.Members.{Owned, has_name, is_define, is_instance_field, is_method, is_static, is_static_field, kit_of, members_of, nearest, owned}
use Rattle.sed_classes.specs.Objects.{is_inline}
use Rattle.sed_classes.specs.Types.{is_field_type, type_of}
use Rattle.sed_program.specs.Fields.{field_number, static_number}
use Rattle.sed_program.specs.Meaning.{define_constant, member_of, used_constant}
use Rattle.sed_program.specs.Outlined.{IsOutlined}
use Rattle.sed_program.specs.Types.{form_of, form_of_type, number_of, place_of, used_form}
use Rattle.sed_program.specs.Ordered.{IsOrdered}
use Rattle.sed_member_laws.specs.Faultless.{AreFree, Keeps}
use Rattle.sed_member_laws.proofs.Fit.{field_type, form_is}
use Rattle.sed_member_laws.proofs.Flat.{found_filtered, found_in, some_is}
use Rattle.sed_member_laws.proofs.Nearest.{nearest_found, owned_kit}
use Rattle.sed_member_laws.proofs.Own.{member_kept, same_name}
use Rattle.sed_member_laws.proofs.Words.{static_no_property}
use Rattle.sed_member_laws.proofs.Declaring.{some_and}
use Rattle.sed_member_laws.proofs.FieldsAt.{field_at, instance_no_method, member_form, static_at, static_no_method, there_in}
use Rattle.sed_check.specs.Means.{HaveDefines}
use Rattle.sed_check.proofs.Used.{used_is}

-- ---- a static is no Buf

field_no_buf : (units : List KitUnits) (inline : Bool) (t : SourceType) (x : FieldForm) →
    is_field_type inline t ≡ true → form_of_type units t ≡ Some x → IsNoBuf x
field_no_buf units inline type.Void x e g = cc
field_no_buf units inline (type.Prim p) x e g = subst IsNoBuf (some_is (form.Prim p) x g) tt
field_no_buf units inline type.Text x e g = cc
field_no_buf units inline (type.SizedText n) x e g = subst IsNoBuf (some_is (form.Str n) x g) tt
field_no_buf units inline (type.Buf n) x e g = cc
field_no_buf units inline (type.Array p n) x e g = subst IsNoBuf (some_is (form.Array p n) x g) tt
field_no_buf units inline (type.Object c) x e g = by_number (number_of units c) refl
  where
    by_number : (o : Option TypeNo) → number_of units c ≡ o → IsNoBuf x
    by_number None s = let clash : None ≡ Some x = sym (ap (option_map form.Object) s) ∙ g in cc
    by_number (Some t) s = subst IsNoBuf (some_is (form.Object t) x (sym (ap (option_map form.Object) s) ∙ g)) tt
field_no_buf units inline type.Unknown x e g = cc
field_no_buf units inline type.Outside x e g = cc

pub static_no_buf : (units : List KitUnits) → AreFree units → (c i : ℕ) (m : Member) (x : FieldForm) →
    slice_get (members_of units c) i ≡ Some m →
    is_static m ≡ true → is_method m ≡ false → form_of units (kit_of units c) m ≡ Some x → IsNoBuf x
static_no_buf units f c i m x e s n is =
    let k = member_kept units f c i m e in
    let keeps : Keeps units c k.0 i m = k.3 in
    field_no_buf
    units
    (is_inline m)
    (type_of units k.0.kit m.kind)
    x
    (field_type units c k.0 i m keeps n (static_no_property units f c i m e s n))
    (sym (form_is units c k.0 i m keeps n).1 ∙ sym (ap (λ kit. form_of units kit m) k.2) ∙ is)

-- ---- what a name stands for

-- what is said of it in the class at a place
record Said (units : List KitUnits) (name : List ℕ) (w : Owned) (place : ℕ) : Type 0 where
  step : ℕ
  above : slice_get (lineage units place) step ≡ Some w.class
  kit : w.kit ≡ kit_of units w.class
  at : ℕ
  there : slice_get (members_of units w.class) at ≡ Some w.member
  first : find (has_name w.member.name.bytes) (members_of units w.class) ≡ Some w.member

said : (units : List KitUnits) (name : List ℕ) (w : Owned) (place : ℕ) → nearest units place name ≡ Some w →
    Said units name w place
said units name w place near =
    let stands = nearest_found units name (lineage units place) w near in
    let inside = found_in (has_name name) (members_of units w.class) w.member stands.3 in
    record {
      step = stands.0;
      above = stands.1;
      kit = owned_kit units name (lineage units place) w stands;
      at = inside.0;
      there = inside.1;
      first = ap (λ x. find (has_name x) (members_of units w.class)) (same_name w.member.name.bytes name inside.2)
          ∙ stands.3;
    }

field_means : (units : List KitUnits) (c : Context) → AreFree units → IsOrdered units c.program →
    (k place : ℕ) (name : List ℕ) (w : Owned) →
    place_of units k ≡ Some place → Said units name w place → is_instance_field w.member ≡ true →
    IsMember c k (member.Field (used_form units w.kit w.member) (field_number units w.class w.member.name.bytes))
field_means units c f o k place name w at s is t e =
    let own = found_filtered (has_name w.member.name.bytes) is_instance_field
    (members_of units w.class) w.member s.first is in
    let known = member_form units c.program f o w.class s.at w.member s.there (instance_no_method w.member is) in
    some_and
    (λ x. field_form c.program (kind.Object t) (field_number units w.class w.member.name.bytes) ≡ Some x)
    (used_form units w.kit w.member)
    known.0
    (ap (λ kit. used_form units kit w.member) s.kit
    ∙ used_is units f w.class s.at w.member s.there (form_of units (kit_of units w.class) w.member)
    ∙ known.1)
    (ap (λ n. option_map (λ (x : Field). x.form) (slice_get (typed.fields c.program n)
    (field_number units w.class w.member.name.bytes))) e
    ∙ ap
    (option_map (λ (x : Field). x.form))
    (field_at
    units
    c.program
    f
    o
    k
    place
    s.step
    w.class
    own.0
    w.member
    known.0
    at
    s.above
    own.2
    own.1
    known.1))

static_means : (units : List KitUnits) (c : Context) → AreFree units → IsOrdered units c.program →
    IsOutlined units c.program → (k place : ℕ) (name : List ℕ) (w : Owned) →
    Said units name w place → is_static_field w.member ≡ true → is_static w.member ≡ true →
    IsMember c k (member.Static (used_form units w.kit w.member) (static_number units w.class w.member.name.bytes))
static_means units c f o p k place name w s is static =
    let own = found_filtered (has_name w.member.name.bytes) is_static_field
    (members_of units w.class) w.member s.first is in
    let known = member_form units c.program f o w.class s.at w.member s.there (static_no_method w.member is) in
    some_and
    (λ x. (static_form c.program (static_number units w.class w.member.name.bytes) ≡ Some x) × IsNoBuf x)
    (used_form units w.kit w.member)
    known.0
    (ap (λ kit. used_form units kit w.member) s.kit
    ∙ used_is units f w.class s.at w.member s.there (form_of units (kit_of units w.class) w.member)
    ∙ known.1) (
      ap (λ l. option_map (λ (x : Field). x.form) (slice_get l
          (static_number units w.class w.member.name.bytes))) p.statics
          ∙ ap
          (option_map (λ (x : Field). x.form))
          (static_at units c.program f o w.class own.0 w.member known.0
          (there_in units w.class s.at w.member s.there) own.2 own.1 known.1),
      static_no_buf units f w.class s.at w.member known.0 s.there static (static_no_method w.member is) known.1,
    )

member_means : (units : List KitUnits) (c : Context) → AreFree units → HaveDefines units → IsOrdered units c.program →
    IsOutlined units c.program →
    (k place : ℕ) (name : List ℕ) (w : Owned) → place_of units k ≡ Some place → nearest units place name ≡ Some w →
    w ≡ owned w.class (kit_of units w.class) w.member →
    IsMember c k (member_of units w)
member_means units c f v o p k place name w at near same = by_tests (is_method w.member) (is_define w.member)
    (is_static w.member) refl refl refl
  where
    s : Said units name w place
    s = said units name w place near

    by_tests : (a b d : Bool) → is_method w.member ≡ a → is_define w.member ≡ b → is_static w.member ≡ d →
        IsMember c k
        (if a then member.Method
        else if b then member.Define (used_constant units w)
        else if d then member.Static (used_form units w.kit w.member) (static_number units w.class w.member.name.bytes)
        else member.Field (used_form units w.kit w.member) (field_number units w.class w.member.name.bytes))
    by_tests true b d x y z = tt
    by_tests false true d x y z =
        let here : Owned = owned w.class (kit_of units w.class) w.member in
        subst
        (λ u. IsSomeAnd (used_constant units u) IsConstant)
        (sym same)
        (subst
        (λ r. IsSomeAnd r IsConstant)
        (sym (used_is units f w.class s.at w.member s.there (define_constant units here)))
        (v.value w.class s.at w.member s.there y))
    by_tests false false true x y z =
        static_means units c f o p k place name w s (three (is_method w.member) (is_define w.member)
        (is_static w.member) x y z) z
      where
        three : (a b d : Bool) → a ≡ false → b ≡ false → d ≡ true → (not a && not b && d) ≡ true
        three true b d x y z = cc
        three false true d x y z = cc
        three false false true x y z = refl
        three false false false x y z = cc
    by_tests false false false x y z =
        field_means units c f o k place name w at s (three (is_method w.member) (is_define w.member)
        (is_static w.member) x y z)
      where
        three : (a b d : Bool) → a ≡ false → b ≡ false → d ≡ false → (not a && not b && not d) ≡ true
        three true b d x y z = cc
        three false true d x y z = cc
        three false false true x y z = cc
        three false false false x y z = refl

pub members_mean : (units : List KitUnits) (c : Context) → AreFree units → HaveDefines units →
    IsOrdered units c.program → IsOutlined units c.program →
    (k : ℕ) (name : List ℕ) →
    IfSome (option_and_then (λ p. option_map (member_of units) (nearest units p name)) (place_of units k))
    (IsMember c k)
members_mean units c f v o p k name = by_place (place_of units k) refl
  where
    by_near : (place : ℕ) → place_of units k ≡ Some place → (w : Option Owned) → nearest units place name ≡ w →
        IfSome (option_map (member_of units) w) (IsMember c k)
    by_near place at None near = tt
    by_near place at (Some w) near =
        member_means units c f v o p k place name w at near (nearest_found units name (lineage units place) w near).2

    by_place : (q : Option ℕ) → place_of units k ≡ q →
        IfSome (option_and_then (λ p. option_map (member_of units) (nearest units p name)) q) (IsMember c k)
    by_place None at = tt
    by_place (Some place) at = by_near place at (nearest units place name) refl
