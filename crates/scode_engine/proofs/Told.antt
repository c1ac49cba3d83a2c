-- What a verified image has for a schema to tell.
use Rattle.std.proofs.Common.{◌≡◌, ◌<◌, ◌≤◌, ℕ, zero, suc, ◌&&◌, ◌||◌, nat_le, not, Bool, true, false, inl, inr, List, [], ◌∷◌, length, get_or, Some, refl, ap, subst, ◌∙◌}
use Rattle.std.specs.Prelude.{slice_get}
use Rattle.std.specs.List.{list_all}
use Rattle.std.proofs.lemmas.Bool.{and_from, and_parts, cases_Bool, eqb-true, le-leb}
use Rattle.std.proofs.lemmas.Option.{slice_get_read}
use Rattle.sed_value.specs.Names.{is_kit_name, is_word}
use Rattle.sed_value.specs.declared.slot_type.SlotType.TheVariants as slot
use Rattle.sed_typed.specs.declared.schema.SlotForm.{SlotForm}
use Rattle.sed_typed.specs.declared.schema.SlotForm.TheVariants.{Prop}
use Rattle.sed_engine.specs.Whole.{HasBufSize}
use Rattle.scode_image.specs.declared.image.Image.{Image}
use Rattle.scode_image.specs.declared.image.ImageClass.{ImageClass}
use Rattle.scode_image.specs.declared.image.ImageKit.{ImageKit}
use Rattle.scode_image.specs.declared.image.ImageSlot.{ImageSlot}
use Rattle.scode_code.specs.Faults.{IsVerified}
use Rattle.scode_code.specs.TableRules as rule
use Rattle.scode_code.specs.Tables.{slot_form}
use Rattle.scode_whole.proofs.Rule.{Agrees, ClassAgrees, agrees, class_agrees}
use Rattle.scode_whole.proofs.SlotFields.{bufs_of}
use Rattle.scode_whole.proofs.Truths.{nine, passes}
use Rattle.scode_whole.proofs.Whole.{first_rule}
use Rattle.scode_engine.specs.Slots.{is_buf, may_be_class, may_be_kit, may_be_slot}

-- a test that each item passes
all_pass : {X : Type 0} (test : X → Bool) (xs : List X) → ((k : ℕ) (x : X) → slice_get xs k ≡ Some x → test x ≡ true)
    → list_all test xs ≡ true
all_pass test [] each = refl
all_pass test (x ∷ xs) each =
    and_from (test x) (list_all test xs) (each zero x refl) (all_pass test xs (λ k y e. each (suc k) y e))

-- the same of an item that a loop comes to
pub item_passes : {X : Type 0} (test : X → Bool) (xs : List X) (i : ℕ) (x : X) → list_all test xs ≡ true
    → i < length xs → x ≡ get_or xs i x → test x ≡ true
item_passes test xs i x all within is =
    passes test xs i x all (slice_get_read xs (length xs) i x refl within is)

module _ (image : Image) (verified : IsVerified image) where
  agree : Agrees image
  agree = agrees image (first_rule image verified)

  named : rule.names_have_form image ≡ true
  named =
      (nine (rule.parts_are_known image) (rule.names_have_form image) (rule.types_are_numbered image)
      (rule.sys_is_there image) (rule.component_has_table image) (rule.all_classes image (rule.class_agrees image))
      (rule.fields_agree image (length image.static_bytes) image.static_fields image.static_bytes)
      (list_all (rule.method_agrees image) image.methods) (rule.keeps_limits image) (first_rule image verified)).1

  names : (list_all (λ (k : ImageKit). is_kit_name k.name) image.kits ≡ true)
      × (list_all (λ (c : ImageClass). is_word c.name && list_all (λ (s : ImageSlot). is_word s.name) c.slots) image.classes ≡ true)
  names =
      and_parts (list_all (λ (k : ImageKit). is_kit_name k.name) image.kits)
      (list_all (λ (c : ImageClass). is_word c.name && list_all (λ (s : ImageSlot). is_word s.name) c.slots)
      image.classes) named

  pub kits_told : list_all may_be_kit image.kits ≡ true
  kits_told = names.0

  -- ---- classes

  module _ (class : ℕ) (c : ImageClass) (here : slice_get image.classes class ≡ Some c) where
    its : ClassAgrees image class c
    its = class_agrees image agree class c here

    its_names : (is_word c.name ≡ true) × (list_all (λ (s : ImageSlot). is_word s.name) c.slots ≡ true)
    its_names =
        and_parts (is_word c.name) (list_all (λ (s : ImageSlot). is_word s.name) c.slots)
        (passes (λ (d : ImageClass). is_word d.name && list_all (λ (s : ImageSlot). is_word s.name) d.slots)
        image.classes class c names.1 here)

    few : (n : ℕ) (s : ImageSlot) → slice_get c.slots n ≡ Some s → is_buf s.form ≡ true → nat_le s.n 128 ≡ true
    few n s e buf =
        let same : s.form ≡ 7 = eqb-true s.form 7 buf in
        let high : nat_le s.form 5 ≡ false = ap (λ (k : ℕ). nat_le k 5) same in
        let is : slot_form s ≡ Prop (slot.Buf s.n) = rw (high, buf) refl in
        let sized : (1 ≤ s.n) × (s.n ≤ 128) =
        subst (λ (f : SlotForm). HasBufSize f) is (bufs_of image class c its n s e) in
        le-leb s.n 128 sized.1

    slot_told : (n : ℕ) (s : ImageSlot) → slice_get c.slots n ≡ Some s → may_be_slot s ≡ true
    slot_told n s e =
        and_from (is_word s.name) (not (is_buf s.form) || nat_le s.n 128)
        (passes (λ (t : ImageSlot). is_word t.name) c.slots n s its_names.1 e)
        (elim (cases_Bool (is_buf s.form)) [
          | inl buf ↦
              ap (λ (b : Bool). not b || nat_le s.n 128) buf ∙ few n s e buf
          | inr none ↦ ap (λ (b : Bool). not b || nat_le s.n 128) none
        ])

    class_told : may_be_class c ≡ true
    class_told =
        and_from (is_word c.name && list_all may_be_slot c.slots) (nat_le (length c.contents) 65535)
        (and_from (is_word c.name) (list_all may_be_slot c.slots) its_names.0 (all_pass may_be_slot c.slots slot_told))
        (front its.limits)
      where
        front : rule.class_keeps_limits image class c ≡ true → nat_le (length c.contents) 65535 ≡ true
        front h = (and_parts (nat_le (length c.contents) 65535) _
            (and_parts _ _ (and_parts _ _ (and_parts _ _ (and_parts _ _ h).0).0).0).0).0

  pub classes_told : list_all may_be_class image.classes ≡ true
  classes_told = all_pass may_be_class image.classes class_told
