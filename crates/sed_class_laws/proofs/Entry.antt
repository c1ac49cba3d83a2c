-- A member of a class that breaks no rule, beside the slot that it adds and the field that it is.
use Rattle.std.proofs.Common.{◌≡◌, ◌&&◌, ◌||◌, ℕ, Bool, true, false, not, if◌then◌else◌, List, [], slice_get, Option, Some, None, refl, sym, ap, ◌∙◌}
use Rattle.std.specs.List.{list_any, position}
use Rattle.std.specs.Option.{option_map}
use Rattle.std.specs.Str.{bytes_eq}
use Rattle.sed_value.specs.declared.slot_type.SlotType.{SlotType}
use Rattle.sed_value.specs.declared.slot_type.SlotType.TheVariants as slot
use Rattle.sed_units.specs.declared.classes.Member.{Member}
use Rattle.sed_typed.specs.declared.program.Field.{Field}
use Rattle.sed_typed.specs.declared.program.FieldForm.{FieldForm}
use Rattle.sed_typed.specs.declared.program.FieldForm.TheVariants as form
use Rattle.sed_typed.specs.declared.schema.SlotForm.{SlotForm}
use Rattle.sed_typed.specs.declared.schema.SlotForm.TheVariants.{Prop, Action}
use Rattle.sed_typed.specs.declared.schema.SlotInfo.{SlotInfo}
use Rattle.sed_typed.specs.TypedSchema.{IsProperty}
use Rattle.sed_classes.specs.declared.kit_units.KitUnits.{KitUnits}
use Rattle.sed_classes.specs.declared.source_type.SourceType.{SourceType}
use Rattle.sed_classes.specs.declared.source_type.SourceType.TheVariants as type
use Rattle.sed_classes.specs.Declarations.{Declaration}
use Rattle.sed_classes.specs.Bases.{bases, is_below}
use Rattle.sed_classes.specs.SysSource.{component_class}
use Rattle.sed_classes.specs.Types.{is_property_type, is_unknown, type_of, is_field_type}
use Rattle.sed_classes.specs.Members.{form_params, inherits, is_action, is_config, is_define, is_instance_field, is_method, is_property, is_static, kit_of, overrides}
use Rattle.sed_classes.specs.Objects.{is_inline}
use Rattle.sed_classes.specs.MemberRules.{fits_one_of, is_no_slot, is_slot_elsewhere, is_wrong_action, is_wrong_property}
use Rattle.sed_classes.specs.FieldRules.{have_words_apart, is_no_field, is_no_member, is_no_result}
use Rattle.sed_classes.specs.Slots.{action_argument, is_new_action, property_shape, shape_of, slot_of, slot_type, slots, with_name}
use Rattle.sed_classes.specs.Faults.{declaration_faults}
use Rattle.sed_program.specs.Types.{form_of, form_of_type}
use Rattle.sed_program.specs.Fields.{a_field, field_of, slot_no, slot_of_field}
use Rattle.sed_outline.proofs.Unbroken.{not_broken}
use Rattle.sed_class_laws.proofs.Known.{buf_fits, property_words, type_known}
use Rattle.sed_class_laws.proofs.Rules.{member_fit, member_typed, name_own, overridden, slot_fit}
pub use Rattle.sed_value.proofs.Truths.{or_left as first_of, or_right as second_of}

-- where a slot of a name stands among those of a class
abbrev pub named_slot : List SlotInfo → List ℕ → Option ℕ
named_slot all name = position (λ s. bytes_eq s.name name) all

-- what a member adds
pub data Entry (units : List KitUnits) (n class : ℕ) (m : Member) : Type 0 where
  property : (s : SlotInfo) (t : SlotType) (f : Field) → slot_of units (kit_of units class) m ≡ Some s →
      s.form ≡ Prop t → s.name ≡ m.name.bytes →
      is_instance_field m ≡ true → field_of units n class m ≡ Some f →
      f.slot ≡ option_map slot_no (named_slot (slots units class) m.name.bytes) →
      IsProperty s t f → Entry units n class m
  action : (s : SlotInfo) → slot_of units (kit_of units class) m ≡ Some s →
      s.form ≡ Action (action_argument units (kit_of units class) (form_params m.form)) →
      s.name ≡ m.name.bytes → s.config ≡ false → is_instance_field m ≡ false → is_method m ≡ true →
      is_action m ≡ true → Entry units n class m
  plain : slot_of units (kit_of units class) m ≡ None → ((f : Field) → field_of units n class m ≡ Some f →
      f.slot ≡ None) → Entry units n class m

-- and what it keeps where it adds a slot
pub record Adds (units : List KitUnits) (class : ℕ) (m : Member) : Type 0 where
  pub plain_name : overrides m ≡ false
  pub new_name : inherits units class m.name.bytes ≡ false
  pub component : is_below units component_class class ≡ true

-- the slot that a member adds, by whether it is a property and whether it is a new action
abbrev shaped_by : List KitUnits → ℕ → Member → Bool → Bool → Option SlotInfo
shaped_by units kit m first second =
    with_name m.name.bytes (if first then property_shape (is_config m.facets) (slot_type (type_of units kit m.kind))
    else if second then Some (false, Action (action_argument units kit (form_params m.form))) else None)

-- ---- tests

-- ---- a property

module _ (units : List KitUnits) (class : ℕ) (d : Declaration) (free : declaration_faults units class d
    ≡ []) (kit : kit_of units class ≡ d.kit)
    (i : ℕ) (m : Member) (at : slice_get d.class.members i ≡ Some m) where
  pub slot_so : is_no_slot units class d.kit m ≡ false
  slot_so = not_broken (is_no_slot units class d.kit m) 8 m.at (slot_fit units class d free i m at)

  pub words_so : have_words_apart m ≡ false
  words_so =
      second_of
      (is_no_field (type_of units d.kit m.kind) m || is_no_result (type_of units d.kit m.kind) m)
      (have_words_apart m)
      (not_broken (is_no_member (type_of units d.kit m.kind) m) 10 m.at (member_fit units class d free i m at))

  property_typed : is_property m ≡ true → is_property_type (type_of units d.kit m.kind) ≡ true
  property_typed p =
      by_tests
      (is_property m)
      (is_unknown (type_of units d.kit m.kind))
      (is_property_type (type_of units d.kit m.kind))
      p
      (type_known units d.kit m.kind (member_typed units class d free i m at))
      (second_of
      (is_slot_elsewhere units class m)
      (is_wrong_property units d.kit m)
      (first_of (is_slot_elsewhere units class m || is_wrong_property units d.kit m)
      (is_wrong_action units d.kit m) slot_so))
    where
      by_tests : (a b c : Bool) → a ≡ true → b ≡ false → (a && (not b && not c)) ≡ false → c ≡ true
      by_tests true false true p q e = refl
      by_tests true false false p q e = cc
      by_tests true true c p q e = cc
      by_tests false b c p q e = cc

  -- a property's name is new, since it is no method that overrides
  adds : (is_property m || is_action m) ≡ true → overrides m ≡ false → Adds units class m
  adds s o = record {
    plain_name = o;
    new_name =
        no_name
        (overrides m)
        (inherits units class m.name.bytes)
        o
        (not_broken (not (overrides m) && inherits units class m.name.bytes) 5 m.at
        (name_own units class d free i m at));
    component =
        there
        (is_property m || is_action m)
        (is_below units component_class class)
        s
        (first_of
        (is_slot_elsewhere units class m)
        (is_wrong_property units d.kit m)
        (first_of (is_slot_elsewhere units class m || is_wrong_property units d.kit m)
        (is_wrong_action units d.kit m) slot_so));
  }
    where
      no_name : (a b : Bool) → a ≡ false → (not a && b) ≡ false → b ≡ false
      no_name false b p e = e
      no_name true b p e = cc

      there : (a b : Bool) → a ≡ true → (a && not b) ≡ false → b ≡ true
      there true true p e = refl
      there true false p e = cc
      there false b p e = cc

  no_override : is_method m ≡ false → overrides m ≡ false
  no_override p =
      by_tests
      (overrides m)
      (is_method m)
      p
      (not_broken
      (overrides m && not (is_method m && list_any (fits_one_of units d.kit m) (bases units class)))
      6
      m.at
      (overridden units class d free i m at))
    where
      by_tests : (a b : Bool) → b ≡ false → (a && not (b && list_any (fits_one_of units d.kit m) (bases units class)))
          ≡ false → a ≡ false
      by_tests false b p e = refl
      by_tests true false p e = cc
      by_tests true true p e = cc

  -- ---- the three cases

  property_entry : (n : ℕ) → is_property m ≡ true → Entry units n class m
  property_entry n p = by_type (type_of units d.kit m.kind) refl (property_typed p)
    where
      words : (is_method m ≡ false) × (is_instance_field m ≡ true)
      words = property_words m p words_so

      formed : (t : SourceType) → type_of units d.kit m.kind ≡ t → is_property_type t ≡ true →
          form_of units (kit_of units class) m ≡ form_of_type units t
      formed t e h =
          ap (λ k. form_of units k m) kit
          ∙ ap (λ b. if (if b then is_property_type (type_of units d.kit m.kind)
          else is_field_type (is_inline m) (type_of units d.kit m.kind)) then form_of_type units
          (type_of units d.kit m.kind) else None) p
          ∙ ap (λ x. if is_property_type x then form_of_type units x else None) e
          ∙ ap (λ b. if b then form_of_type units t else None) h

      shaped : (t : SourceType) → type_of units d.kit m.kind ≡ t →
          slot_of units (kit_of units class) m ≡ with_name m.name.bytes (property_shape (is_config m.facets)
          (slot_type t))
      shaped t e =
          ap (λ k. slot_of units k m) kit
          ∙ ap
          (λ b. shaped_by units d.kit m b (is_new_action m)) p
          ∙ ap (λ x. with_name m.name.bytes (property_shape (is_config m.facets) (slot_type x))) e

      placed : slot_of_field units class m ≡ option_map slot_no (named_slot (slots units class) m.name.bytes)
      placed = ap (λ b. if b then option_map slot_no (named_slot (slots units class) m.name.bytes) else None) p

      by_type : (t : SourceType) → type_of units d.kit m.kind ≡ t → is_property_type t ≡ true → Entry units n class m
      by_type (type.Prim q) e h =
          property
          (record { name = m.name.bytes; config = is_config m.facets; form = Prop (slot.Prim q) })
          (slot.Prim q)
          (a_field units n class m (form.Prim q))
          (shaped (type.Prim q) e)
          refl
          refl
          words.1
          (ap (option_map (a_field units n class m)) (formed (type.Prim q) e h))
          placed
          (refl, refl)
      by_type (type.Buf k) e h =
          let fits = buf_fits units d.kit m.kind k e in
          property
          (record { name = m.name.bytes; config = is_config m.facets; form = Prop (slot.Buf k) })
          (slot.Buf k)
          (a_field units n class m (form.Buf k))
          (shaped (type.Buf k) e)
          refl
          refl
          words.1
          (ap (option_map (a_field units n class m)) (formed (type.Buf k) e h))
          placed
          (refl, fits.0, fits.1, refl)
      by_type type.Void e h = cc
      by_type type.Text e h = cc
      by_type (type.SizedText k) e h = cc
      by_type (type.Array q k) e h = cc
      by_type (type.Object c) e h = cc
      by_type type.Unknown e h = cc
      by_type type.Outside e h = cc

  action_entry : (n : ℕ) → is_property m ≡ false → is_new_action m ≡ true → Entry units n class m
  action_entry n p a =
      action
      (record {
        name = m.name.bytes;
        config = false;
        form = Action (action_argument units (kit_of units class)
            (form_params m.form));
      })
      (ap
      (λ b. shaped_by units (kit_of units class) m b (is_new_action m)) p ∙ ap (shaped_by units (kit_of units class) m false) a)
      refl
      refl
      refl
      (ap (λ b. not b && not (is_define m) && not (is_static m)) (new_action (is_method m) (is_action m)
      (overrides m) a).0)
      (new_action (is_method m) (is_action m) (overrides m) a).0
      (new_action (is_method m) (is_action m) (overrides m) a).1
    where
      new_action : (x y z : Bool) → (x && y && not z) ≡ true → (x ≡ true) × (y ≡ true) × (z ≡ false)
      new_action true true false e = (refl, refl, refl)
      new_action true true true e = cc
      new_action true false z e = cc
      new_action false y z e = cc

  plain_entry : (n : ℕ) → is_property m ≡ false → is_new_action m ≡ false → Entry units n class m
  plain_entry n p a =
      plain
      (ap
      (λ b. shaped_by units (kit_of units class) m b (is_new_action m)) p ∙ ap (shaped_by units (kit_of units class) m false) a)
      (λ f e. by_form (form_of units (kit_of units class) m) f e)
    where
      by_form : (o : Option FieldForm) (f : Field) → option_map (a_field units n class m) o ≡ Some f → f.slot ≡ None
      by_form None f e = cc
      by_form (Some x) f e =
          let same : a_field units n class m x ≡ f = cc in
          sym (ap (λ (y : Field). y.slot) same) ∙ ap (λ b. if b then option_map slot_no (named_slot
          (slots units class) m.name.bytes) else None) p

  pub entry : (n : ℕ) → Entry units n class m
  entry n = by_tests (is_property m) (is_new_action m) refl refl
    where
      by_tests : (a b : Bool) → is_property m ≡ a → is_new_action m ≡ b → Entry units n class m
      by_tests true b p q = property_entry n p
      by_tests false true p q = action_entry n p q
      by_tests false false p q = plain_entry n p q

  -- what adds a slot
  pub adding : (s : SlotInfo) → slot_of units (kit_of units class) m ≡ Some s →
      Adds units class m × (s.name ≡ m.name.bytes)
  adding s e = by_tests (is_property m) (is_new_action m) refl refl
    where
      new_action : (x y z : Bool) → (x && y && not z) ≡ true → (y ≡ true) × (z ≡ false)
      new_action true true false f = (refl, refl)
      new_action true true true f = cc
      new_action true false z f = cc
      new_action false y z f = cc

      named : (o : Option (Bool × SlotForm)) → with_name m.name.bytes o ≡ Some s → s.name ≡ m.name.bytes
      named None f = cc
      named (Some x) f =
          let same : record { name = m.name.bytes; config = x.0; form = x.1 } ≡ s = cc in
          sym (ap (λ (y : SlotInfo). y.name) same)

      by_tests : (a b : Bool) → is_property m ≡ a → is_new_action m ≡ b → Adds units class m × (s.name ≡ m.name.bytes)
      by_tests true b p q = (
        adds (ap (λ x. x || is_action m) p) (no_override (property_words m p words_so).0),
        named (shape_of units (kit_of units class) m) e,
      )
      by_tests false true p q =
          let is = new_action (is_method m) (is_action m) (overrides m) q in (
            adds (ap (λ x. x || is_action m) p ∙ is.0) is.1,
            named (shape_of units (kit_of units class) m) e,
          )
      by_tests false false p q =
          let none : None ≡ Some s =
          sym
          (ap
          (λ b. shaped_by units (kit_of units class) m b (is_new_action m)) p ∙ ap (shaped_by units (kit_of units class) m false) q)
          ∙ e in
          cc
