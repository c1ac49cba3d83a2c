-- What the first rule says of an image, of a class and of a field.
use Rattle.std.proofs.Common.{◌≡◌, ℕ, true, List, length, Some, nat_le, ◌&&◌}
use Rattle.std.specs.Prelude.{slice_get}
use Rattle.std.specs.List.{list_all, range_with_len}
use Rattle.sed_value.specs.Value.{are_bytes}
use Rattle.scode_image.specs.declared.image.Image.{Image}
use Rattle.scode_image.specs.declared.image.ImageClass.{ImageClass}
use Rattle.scode_image.specs.declared.image.ImageField.{ImageField}
use Rattle.scode_image.specs.declared.image.ImageSlot.{ImageSlot}
use Rattle.scode_image.specs.Grammar.{is_field_form, is_slot_form}
use Rattle.scode_code.specs.TableRules as rule
use Rattle.scode_whole.proofs.Truths.{nine, seven, five, four, passes, at_number}

-- the parts of the rule that are asked here
pub record Agrees (image : Image) : Type 0 where
  pub known : rule.parts_are_known image ≡ true
  pub numbered : rule.types_are_numbered image ≡ true
  pub sys : rule.sys_is_there image ≡ true
  pub classes : rule.all_classes image (rule.class_agrees image) ≡ true
  pub statics : rule.fields_agree image (length image.static_bytes) image.static_fields image.static_bytes ≡ true
  pub limits : rule.keeps_limits image ≡ true

pub agrees : (image : Image) → rule.tables_agree image ≡ true → Agrees image
agrees image h =
    let p = nine (rule.parts_are_known image) (rule.names_have_form image) (rule.types_are_numbered image)
    (rule.sys_is_there image) (rule.component_has_table image) (rule.all_classes image (rule.class_agrees image))
    (rule.fields_agree image (length image.static_bytes) image.static_fields image.static_bytes)
    (list_all (rule.method_agrees image) image.methods) (rule.keeps_limits image) h in
    record { known = p.0; numbered = p.2; sys = p.3; classes = p.5; statics = p.6; limits = p.8 }

-- ---- fields

pub record FieldsAgree (image : Image) (size : ℕ) (fields : List ImageField) (bytes : List ℕ) : Type 0 where
  pub are_there : rule.object_fields_are_there image fields ≡ true
  pub of_form : list_all rule.n_is_of_form fields ≡ true
  pub apart : rule.fields_lie_apart image size fields ≡ true
  pub fit : rule.bytes_fit image fields bytes ≡ true

fields_agree : (image : Image) (size : ℕ) (fields : List ImageField) (bytes : List ℕ)
    → rule.fields_agree image size fields bytes ≡ true → FieldsAgree image size fields bytes
fields_agree image size fields bytes h =
    let p = five (rule.object_fields_are_there image fields) (rule.objects_may_be_inline image fields)
    (list_all rule.n_is_of_form fields) (rule.fields_lie_apart image size fields)
    (rule.bytes_fit image fields bytes) h in
    record { are_there = p.0; of_form = p.2; apart = p.3; fit = p.4 }

-- ---- limits

pub record Limits (image : Image) : Type 0 where
  pub kits : nat_le (length image.kits) 16 ≡ true
  pub types : list_all (λ (kit : ℕ). nat_le (length (rule.numbers_in_kit image kit)) 64)
      (range_with_len 0 (length image.kits))
      ≡ true
  pub classes : rule.all_classes image (rule.class_keeps_limits image) ≡ true

pub limits_of : (image : Image) → Agrees image → Limits image
limits_of image is =
    let p = seven (nat_le (length image.kits) 16)
    (list_all (λ (kit : ℕ). nat_le (length (rule.numbers_in_kit image kit)) 64) (range_with_len 0 (length image.kits)))
    (nat_le (length image.texts) 4096) (nat_le (length image.static_bytes) 65535)
    (rule.all_classes image (rule.class_keeps_limits image)) (list_all rule.method_keeps_limits image.methods)
    (nat_le (length image.methods) 65535) is.limits in
    record { kits = p.0; types = p.1; classes = p.4 }

-- ---- a class

pub record ClassAgrees (image : Image) (class : ℕ) (c : ImageClass) : Type 0 where
  pub numbers : rule.class_numbers_are_there image c ≡ true
  pub before : rule.base_stands_before class c ≡ true
  pub marked : rule.is_marked image class c ≡ true
  pub grows : rule.with_base image (rule.grows_from_base c) c ≡ true
  pub fields : FieldsAgree image (length c.contents) c.fields c.contents
  pub holders : rule.holds_no_holder image class c ≡ true
  pub slots : rule.slots_have_parts image c ≡ true
  pub flags : nat_le c.flags 3 ≡ true
  pub field_forms : list_all (λ (f : ImageField). is_field_form f.form) c.fields ≡ true
  pub slot_forms : list_all (λ (s : ImageSlot). is_slot_form s.form && nat_le s.config 1) c.slots ≡ true
  pub bytes : are_bytes c.contents ≡ true
  pub limits : rule.class_keeps_limits image class c ≡ true

pub class_agrees : (image : Image) → Agrees image → (class : ℕ) (c : ImageClass)
    → slice_get image.classes class ≡ Some c
    → ClassAgrees image class c
class_agrees image is class c there =
    let p = nine (rule.class_numbers_are_there image c) (rule.base_stands_before class c) (rule.is_marked image class c)
    (rule.with_base image (rule.grows_from_base c) c) (rule.with_base image (rule.table_keeps_signatures image c) c)
    (rule.fields_agree image (length c.contents) c.fields c.contents) (rule.holds_no_holder image class c)
    (rule.slots_have_parts image c) (rule.table_methods_fit image class c)
    (at_number (rule.class_agrees image) class image.classes c is.classes there) in
    let parts = five (list_all rule.class_is_known image.classes)
    (list_all (λ (f : ImageField). is_field_form f.form) image.static_fields) (are_bytes image.static_bytes)
    (list_all rule.text_is_known image.texts) (list_all rule.method_is_known image.methods) is.known in
    let k = four (nat_le c.flags 3) (list_all (λ (f : ImageField). is_field_form f.form) c.fields)
    (list_all (λ (s : ImageSlot). is_slot_form s.form && nat_le s.config 1) c.slots) (are_bytes c.contents)
    (passes rule.class_is_known image.classes class c parts.0 there) in
    record {
      numbers = p.0;
      before = p.1;
      marked = p.2;
      grows = p.3;
      fields = fields_agree image (length c.contents) c.fields c.contents p.5;
      holders = p.6;
      slots = p.7;
      flags = k.0;
      field_forms = k.1;
      slot_forms = k.2;
      bytes = k.3;
      limits = at_number (rule.class_keeps_limits image) class image.classes c (limits_of image is).classes there;
    }

-- ---- statics

pub record StaticsAgree (image : Image) : Type 0 where
  pub fields : FieldsAgree image (length image.static_bytes) image.static_fields image.static_bytes
  pub forms : list_all (λ (f : ImageField). is_field_form f.form) image.static_fields ≡ true
  pub bytes : are_bytes image.static_bytes ≡ true

pub statics_agree : (image : Image) → Agrees image → StaticsAgree image
statics_agree image is =
    let parts = five (list_all rule.class_is_known image.classes)
    (list_all (λ (f : ImageField). is_field_form f.form) image.static_fields) (are_bytes image.static_bytes)
    (list_all rule.text_is_known image.texts) (list_all rule.method_is_known image.methods) is.known in
    record {
      fields = fields_agree image (length image.static_bytes) image.static_fields image.static_bytes is.statics;
      forms = parts.1;
      bytes = parts.2;
    }
