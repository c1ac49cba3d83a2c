-- The fields and statics of a program are typed.
use Rattle.std.proofs.Common.{◌≡◌, ◌≢◌, ◌<◌, ◌+◌, ◌&&◌, ◌||◌, ℕ, Bool, true, false, not, nat_le, nat_lt, if◌then◌else◌, List, [], ◌∷◌, ◌++◌, length, filter, position, slice_get, IsTrue, IsSome, IsSomeAnd, All, Option, Some, None, refl, sym, ap, ◌∙◌, subst, arith}
use Rattle.std.specs.Option.{option_map}
use Rattle.std.proofs.lemmas.Bool.{and_from}
use Rattle.std.proofs.lemmas.Bool.Decides.{nat_tests}
use Rattle.std.proofs.lemmas.List.{length-append}
use Rattle.sed_value.specs.Value.{are_bytes}
use Rattle.sed_value.specs.declared.value.Value.TheVariants as value
use Rattle.sed_typed.specs.declared.number.SlotNo.{SlotNo}
use Rattle.sed_typed.specs.declared.number.TypeNo.{TypeNo}
use Rattle.sed_typed.specs.declared.program.Field.{Field}
use Rattle.sed_typed.specs.declared.program.FieldForm.{FieldForm}
use Rattle.sed_typed.specs.declared.program.FieldForm.TheVariants as form
use Rattle.sed_typed.specs.declared.program.Program.{Program}
use Rattle.sed_typed.specs.TypedSchema.{IsField, IsForm, is_initial}
use Rattle.sed_lexer.specs.declared.numbers.Number.{Number}
use Rattle.sed_lexer.specs.declared.numbers.Number.TheVariants.{Int, Long}
use Rattle.sed_names.specs.Spelled.{character_of, integer_of}
use Rattle.sed_units.specs.declared.leaves.Init.{Init}
use Rattle.sed_units.specs.declared.leaves.InitValue.{InitValue}
use Rattle.sed_units.specs.declared.leaves.InitValue.TheVariants as init
use Rattle.sed_units.specs.declared.leaves.Literal.{Literal}
use Rattle.sed_units.specs.declared.leaves.LiteralKind.{LiteralKind}
use Rattle.sed_units.specs.declared.leaves.LiteralKind.TheVariants as literal
use Rattle.sed_units.specs.declared.classes.Member.{Member}
use Rattle.sed_classes.specs.declared.kit_units.KitUnits.{KitUnits}
use Rattle.sed_classes.specs.declared.source_type.SourceType.{SourceType}
use Rattle.sed_classes.specs.declared.source_type.SourceType.TheVariants as type
use Rattle.sed_classes.specs.Declarations.{Declaration}
use Rattle.sed_classes.specs.FieldRules.{is_no_value, is_no_value_of, value_unfit}
use Rattle.sed_classes.specs.Literals.{text_of}
use Rattle.sed_classes.specs.Members.{form_value, is_define, is_instance_field, is_method, is_property, is_static, is_static_field, kit_of, members_of}
use Rattle.sed_classes.specs.Objects.{is_inline}
use Rattle.sed_classes.specs.Schema.{class_order}
use Rattle.sed_classes.specs.Types.{is_field_type, is_property_type, type_of}
use Rattle.sed_classes.specs.Values.{character_constant, constant_of, define_leads_back, define_within, init_constant, is_text_below, kind_constant, member_count, number_constant, takes}
use Rattle.sed_classes.specs.Slots.{slots}
use Rattle.sed_typed.specs.declared.schema.SlotInfo.{SlotInfo}
use Rattle.std.specs.Str.{bytes_eq}
use Rattle.sed_program.specs.Fields.{a_field, all_fields, begun, begun_text, own_statics, slot_no, slot_of_field}
use Rattle.sed_program.specs.Outlined.{IsOutlined}
use Rattle.sed_program.specs.Types.{form_of, form_of_type, number_of, type_no}
use Rattle.sed_member_laws.specs.Literals.{AreSpelled, HasSpelled, IsSpelled, IsValueSpelled, SpellsOne}
use Rattle.sed_program.specs.Ordered.{IsOrdered, number, places}
use Rattle.sed_member_laws.specs.Faultless.{AreFree, Keeps}
use Rattle.sed_member_laws.proofs.Constants.{constant_good, kept_typed, zero_typed}
use Rattle.sed_member_laws.proofs.TextBytes.{ended_small, text_small}
use Rattle.sed_member_laws.proofs.Empty.{not_broken}
use Rattle.sed_member_laws.proofs.Fit.{class_in_program, field_type, form_is, numbered_class, property_type}
use Rattle.sed_member_laws.proofs.Flat.{filtered_in, some_is}
use Rattle.sed_member_laws.proofs.KnownTypes.{object_there}
use Rattle.sed_member_laws.proofs.Own.{member_kept, or_left, or_right}
use Rattle.sed_member_laws.proofs.Rows.{all_from}
use Rattle.sed_member_laws.proofs.Sized.{IsSized, sized}
use Rattle.sed_member_laws.proofs.Words.{static_no_property}
use Rattle.sed_member_laws.proofs.Behind.{FieldFrom, field_from}
use Rattle.sed_member_laws.proofs.FieldsAt.{instance_no_method, static_no_method}
use Rattle.sed_member_laws.proofs.Inlined.{inline_fits, object_fits, property_slot}

-- ---- forms

-- what is known of a field by its type
record Fitting (units : List KitUnits) (program : Program) (f : Field) (property inline : Bool)
    (t : SourceType) : Type 0 where
  holds : (if property then is_property_type t else is_field_type inline t) ≡ true
  sized : IsSized t
  bare : property ≡ false → f.slot ≡ None
  slotted : property ≡ true → f.slot ≢ None
  inside : (c : ℕ) → t ≡ type.Object c → inline ≡ true → IsForm program f (form.Object (type_no (number units c)))
  there : (c : ℕ) → t ≡ type.Object c → c < places units

by_type : (units : List KitUnits) (program : Program) → IsOrdered units program →
    (f : Field) (property inline : Bool) (t : SourceType) (x : FieldForm) →
    Fitting units program f property inline t → form_of_type units t ≡ Some x → IsForm program f x
by_type units program o f property inline type.Void x k e = cc
by_type units program o f property inline (type.Prim p) x k e = subst (IsForm program f) (some_is (form.Prim p) x e) tt
by_type units program o f property inline type.Text x k e = cc
by_type units program o f true inline (type.SizedText n) x k e = let clash : false ≡ true = k.holds in cc
by_type units program o f false inline (type.SizedText n) x k e =
    subst (IsForm program f) (some_is (form.Str n) x e) (k.sized.0, k.sized.1, k.bare refl)
by_type units program o f true inline (type.Buf n) x k e =
    subst (IsForm program f) (some_is (form.Buf n) x e) (k.sized.0, k.sized.1, k.slotted refl)
by_type units program o f false inline (type.Buf n) x k e = let clash : false ≡ true = k.holds in cc
by_type units program o f true inline (type.Array p n) x k e = let clash : false ≡ true = k.holds in cc
by_type units program o f false inline (type.Array p n) x k e = subst (IsForm program f) (some_is (form.Array p n) x e)
    (k.sized, k.bare refl)
by_type units program o f true inline (type.Object c) x k e = let clash : false ≡ true = k.holds in cc
by_type units program o f false inline (type.Object c) x k e =
    subst
    (IsForm program f)
    (some_is (form.Object (type_no (number units c))) x (sym (ap (option_map form.Object)
    (numbered_class units program o c (k.there c refl))) ∙ e))
    (k.inside c refl k.holds)
by_type units program o f property inline type.Unknown x k e = cc
by_type units program o f property inline type.Outside x k e = cc

-- ---- what fields begin with

buf_empty : (n : ℕ) → is_initial (form.Buf n) (value.Buf []) ≡ true
buf_empty n = low n
  where
    low : (n : ℕ) → nat_le 0 n ≡ true
    low n = grind (arith, nat_tests)

buf_text : (n : ℕ) (l : Literal) → IsSpelled l → is_text_below n (kind_constant l.kind l.bytes) ≡ true →
    is_initial (form.Buf n) (value.Buf (text_of l.bytes ++ 0 ∷ [])) ≡ true
buf_text n l s e = by_kind l.kind s.one e
  where
    within : nat_lt (length (text_of l.bytes)) n ≡ true → nat_le (length (text_of l.bytes ++ 0 ∷ [])) n ≡ true
    within h =
        let one : length (text_of l.bytes ++ 0 ∷ []) ≡ length (text_of l.bytes) + 1 = length-append (text_of l.bytes)
        (0 ∷ []) in
        ap (λ k. nat_le k n) one ∙ more (length (text_of l.bytes)) h
      where
        more : (k : ℕ) → nat_lt k n ≡ true → nat_le (k + 1) n ≡ true
        more k h = grind (arith, nat_tests)

    no_number : (o : Option Number) → IsSome o → is_text_below n (number_constant o) ≡ true →
        is_initial (form.Buf n) (value.Buf (text_of l.bytes ++ 0 ∷ [])) ≡ true
    no_number None s h = cc
    no_number (Some (Int z)) s h = cc
    no_number (Some (Long z)) s h = cc

    no_character : (o : Option ℕ) → IsSomeAnd o (λ c. c < 256) → is_text_below n (character_constant o) ≡ true →
        is_initial (form.Buf n) (value.Buf (text_of l.bytes ++ 0 ∷ [])) ≡ true
    no_character None s h = absurd s
    no_character (Some c) s h = cc

    by_kind : (k : LiteralKind) → SpellsOne k l.bytes → is_text_below n (kind_constant k l.bytes) ≡ true →
        is_initial (form.Buf n) (value.Buf (text_of l.bytes ++ 0 ∷ [])) ≡ true
    by_kind literal.Integer p h = no_number (integer_of l.bytes) p h
    by_kind literal.Character p h = no_character (character_of l.bytes) p h
    by_kind literal.Text p h =
        and_from
        (are_bytes (text_of l.bytes ++ 0 ∷ []))
        (nat_le (length (text_of l.bytes ++ 0 ∷ [])) n)
        (ended_small (text_of l.bytes) 0 (text_small l.bytes s.bytes) refl)
        (within h)
    by_kind literal.True p h = cc
    by_kind literal.False p h = cc
    by_kind literal.Null p h = cc

buf_value : (units : List KitUnits) (class n : ℕ) (i : Init) (v : InitValue) → i.value ≡ v → HasSpelled v →
    is_text_below n (constant_of units class i) ≡ true →
    is_initial (form.Buf n) (value.Buf (begun_text v)) ≡ true
buf_value units class n i (init.Literal l) same s e =
    buf_text n l s (sym (ap (λ v. is_text_below n (init_constant (define_within units
    (member_count units)) units class v)) same) ∙ e)
buf_value units class n i (init.Minus l) same s e = buf_empty n
buf_value units class n i (init.Name id) same s e = buf_empty n

-- a field with a value
valued : (units : List KitUnits) → AreSpelled units → (class : ℕ) (i : Init) (t : SourceType) (x : FieldForm) →
    HasSpelled i.value →
    is_no_value_of units class i t ≡ false → form_of_type units t ≡ Some x →
    IsTrue (is_initial x (begun units class x (Some i)))
valued units a class i type.Void x s n e = cc
valued units a class i (type.Prim p) x s n e =
    subst
    (λ y. IsTrue (is_initial y (begun units class y (Some i))))
    (some_is (form.Prim p) x e)
    (kept_typed p (constant_of units class i) (denied (takes p (constant_of units class i)) n)
    (constant_good units a class i s))
  where
    denied : (b : Bool) → not b ≡ false → b ≡ true
    denied true e = refl
    denied false e = cc
valued units a class i type.Text x s n e = cc
valued units a class i (type.SizedText m) x s n e = subst (λ y. IsTrue (is_initial y (begun units class y (Some i))))
    (some_is (form.Str m) x e) refl
valued units a class i (type.Buf m) x s n e =
    subst
    (λ y. IsTrue (is_initial y (begun units class y (Some i))))
    (some_is (form.Buf m) x e)
    (buf_value units class m i i.value refl s (denied (is_text_below m (constant_of units class i)) n))
  where
    denied : (b : Bool) → not b ≡ false → b ≡ true
    denied true e = refl
    denied false e = cc
valued units a class i (type.Array p m) x s n e = subst (λ y. IsTrue (is_initial y (begun units class y (Some i))))
    (some_is (form.Array p m) x e) refl
valued units a class i (type.Object c) x s n e = by_number (number_of units c) e
  where
    by_number : (o : Option TypeNo) → option_map form.Object o ≡ Some x →
        IsTrue (is_initial x (begun units class x (Some i)))
    by_number None g = cc
    by_number (Some t) g = subst (λ y. IsTrue (is_initial y (begun units class y (Some i)))) (some_is
        (form.Object t) x g) refl
valued units a class i type.Unknown x s n e = cc
valued units a class i type.Outside x s n e = cc

-- and one without
bare_value : (units : List KitUnits) (class : ℕ) (x : FieldForm) → IsTrue (is_initial x (begun units class x None))
bare_value units class (form.Prim p) = zero_typed p
bare_value units class (form.Str n) = refl
bare_value units class (form.Buf n) = buf_empty n
bare_value units class (form.Array p n) = refl
bare_value units class (form.Object t) = refl

begins : (units : List KitUnits) → AreSpelled units → (class kit : ℕ) (m : Member) (v : Option Init) (x : FieldForm) →
    IsValueSpelled v →
    value_unfit units class kit m v ≡ [] → form_of_type units (type_of units kit m.kind) ≡ Some x →
    IsTrue (is_initial x (begun units class x v))
begins units a class kit m None x s n e = bare_value units class x
begins units a class kit m (Some i) x s n e =
    valued
    units
    a
    class
    i
    (type_of units kit m.kind)
    x
    s
    (or_right
    (is_inline m)
    (is_no_value_of units class i (type_of units kit m.kind))
    (or_left
    (is_inline m || is_no_value_of units class i (type_of units kit m.kind))
    (is_define m && define_leads_back units class m)
    (not_broken (is_no_value units class kit m i) 11 i.at n)))
    e

-- ---- fields

field_typed : (units : List KitUnits) (program : Program) → AreFree units → AreSpelled units →
    IsOrdered units program → (n c i : ℕ) (m : Member) (x : FieldForm) →
    slice_get (class_order units) n ≡ Some c → slice_get (members_of units c) i ≡ Some m → is_method m ≡ false →
    form_of units (kit_of units c) m ≡ Some x →
    IsField program (a_field units n c m x)
field_typed units program f a o n c i m x at there field is =
    let kept = member_kept units f c i m there in
    let keeps : Keeps units c kept.0 i m = kept.3 in
    let known = form_is units c kept.0 i m keeps field in
    let of_type : form_of_type units (type_of units kept.0.kit m.kind)
    ≡ Some x = sym known.1 ∙ sym (ap (λ kit. form_of units kit m) kept.2) ∙ is in
    let inside : n < places units = (o.place_in n c at).0 in
    record {
      class = omega (arith, inside, o.infos_len);
      form =
          by_type
          units
          program
          o
          (a_field units n c m x)
          (is_property m)
          (is_inline m)
          (type_of units kept.0.kit m.kind)
          x
          (record {
            holds = form_holds kept.0 keeps (is_property m) refl;
            sized = sized units kept.0.kit m.kind;
            bare = λ e. ap (λ b. if b then option_map slot_no (position (λ
                (s : SlotInfo). bytes_eq s.name m.name.bytes) (slots units c)) else None) e;
            slotted = λ e none.
                let own = property_slot units program o c i m there e (ap (λ kit. is_property_type
                (type_of units kit m.kind)) kept.2 ∙ property_type units c kept.0 i m keeps e) in
                clash own.0 (sym own.1 ∙ none);
            inside = λ t e l.
                let there_too : t < places units = object_there units kept.0.kit m.kind t e in
                let fits = object_fits units program f o t there_too
                (inline_fits units c kept.0 i m t keeps field l e) in
                (class_in_program units program o t there_too, fits.0, fits.1, fits.2, no_slot kept.0 keeps t e l);
            there = λ t e. object_there units kept.0.kit m.kind t e;
          })
          of_type;
      initial = begins units a c kept.0.kit m (form_value m.form) x (a.values c i m there) keeps.value of_type;
    }
  where
    clash : (s : SlotNo) → Some s ≡ None → ⊥
    clash s e = cc

    form_holds : (d : Declaration) → Keeps units c d i m → (b : Bool) → is_property m ≡ b →
        (if b then is_property_type (type_of units d.kit m.kind)
        else is_field_type (is_inline m) (type_of units d.kit m.kind)) ≡ true
    form_holds d k true p = property_type units c d i m k p
    form_holds d k false p = field_type units c d i m k field p

    no_slot : (d : Declaration) → Keeps units c d i m → (t : ℕ) → type_of units d.kit m.kind ≡ type.Object t →
        is_inline m ≡ true → slot_of_field units c m ≡ None
    no_slot d k t e l = by_test (is_property m) refl
      where
        by_test : (b : Bool) → is_property m ≡ b → (if b then option_map slot_no (position (λ
            (s : SlotInfo). bytes_eq s.name m.name.bytes) (slots units c)) else None) ≡ None
        by_test false p = refl
        by_test true p =
            let clash : false ≡ true = sym (ap is_property_type e) ∙ property_type units c d i m k p in
            cc

typed_all : (units : List KitUnits) (program : Program) → AreFree units → AreSpelled units → IsOrdered units program →
    (q : Member → Bool) →
    ((m : Member) → q m ≡ true → is_method m ≡ false) → All (IsField program) (all_fields units (λ c. filter q
    (members_of units c)))
typed_all units program f a o q field =
    all_from
    (IsField program)
    (all_fields units (λ c. filter q (members_of units c)))
    (λ n x e.
    let from : FieldFrom units (λ c. filter q (members_of units c)) x = field_from units (λ c. filter q
    (members_of units c)) n x e in
    let own = filtered_in q (members_of units from.class) from.at from.member from.there in
    subst
    (IsField program)
    from.is
    (field_typed units program f a o from.number from.class own.0 from.member from.form from.placed own.1
    (field from.member own.2) from.has))

pub fields_typed : (units : List KitUnits) (program : Program) → AreFree units → AreSpelled units →
    IsOrdered units program → IsOutlined units program →
    All (IsField program) program.fields
fields_typed units program f a o p = subst (All (IsField program)) (sym p.fields)
    (typed_all units program f a o is_instance_field instance_no_method)

pub statics_typed : (units : List KitUnits) (program : Program) → AreFree units → AreSpelled units →
    IsOrdered units program → IsOutlined units program →
    All (IsField program) program.statics
statics_typed units program f a o p = subst (All (IsField program)) (sym p.statics)
    (typed_all units program f a o is_static_field static_no_method)

-- ---- statics are no properties

last_true : (a b c : Bool) → (not a && not b && c) ≡ true → c ≡ true
last_true true b c e = cc
last_true false true c e = cc
last_true false false c e = e

pub statics_apart : (units : List KitUnits) (program : Program) → AreFree units → IsOutlined units program →
    All (λ (x : Field). x.slot ≡ None) program.statics
statics_apart units program f p =
    subst
    (All (λ (x : Field). x.slot ≡ None))
    (sym p.statics)
    (all_from
    (λ (x : Field). x.slot ≡ None)
    (all_fields units (own_statics units))
    (λ n x e.
    let from : FieldFrom units (own_statics units) x = field_from units (own_statics units) n x e in
    let own = filtered_in is_static_field (members_of units from.class) from.at from.member from.there in
    let static : is_static from.member ≡ true = last_true (is_method from.member) (is_define from.member)
    (is_static from.member) own.2 in
    let bare : is_property from.member ≡ false = static_no_property units f from.class own.0 from.member own.1 static
    (static_no_method from.member own.2) in
    sym (ap (λ (y : Field). y.slot) from.is)
    ∙ ap (λ b. if b then option_map slot_no (position (λ (s : SlotInfo). bytes_eq s.name from.member.name.bytes)
    (slots units from.class)) else None) bare))
