-- What the first rule says of an image, of a class, of a field and of a method, as the machine needs it.
use Rattle.std.proofs.Common.{◌≡◌, ◌<◌, ◌≤◌, ◌-◌, ℕ, zero, suc, arith, ◌==◌, ◌&&◌, ◌||◌, not, nat_le, nat_lt, Bool, true, false, List, [], ◌∷◌, length, Option, Some, None, refl, sym, ap, subst, ◌∙◌}
use Rattle.std.specs.Prelude.{slice_get}
use Rattle.std.specs.List.{list_all}
use Rattle.std.specs.Option.{option_and_then, option_map_or}
use Rattle.std.proofs.lemmas.Bool.{leb-true, ltb-true}
use Rattle.sed_value.specs.Value.{are_bytes}
use Rattle.sed_typed.specs.declared.program.FieldForm.{FieldForm}
use Rattle.sed_typed.specs.declared.program.FieldForm.TheVariants as form
use Rattle.scode_image.specs.declared.image.Image.{Image}
use Rattle.scode_image.specs.declared.image.ImageClass.{ImageClass}
use Rattle.scode_image.specs.declared.image.ImageEntry.{ImageEntry}
use Rattle.scode_image.specs.declared.image.ImageField.{ImageField}
use Rattle.scode_image.specs.declared.image.ImageMethod.{ImageMethod}
use Rattle.scode_image.specs.Grammar.{is_field_form}
use Rattle.scode_code.specs.TableRules as rule
use Rattle.scode_code.specs.Tables.{class_fields, form_of, primitive_of}
use Rattle.scode_whole.proofs.Bases.{fields_at}
use Rattle.scode_whole.proofs.Rule.{Agrees, agrees}
use Rattle.scode_whole.proofs.SlotFields.{form_prim, form_str, form_buf}
use Rattle.scode_whole.proofs.Truths.{no_value, two, three, four, five, nine, is_not, passes, at_number}
use Rattle.scode_sound.specs.Cells.{Concrete}
use Rattle.scode_sound.proofs.Booleans.{second}

pub record Tables (image : Image) : Type 0 where
  pub whole : Agrees image
  pub component : rule.component_has_table image ≡ true
  pub methods : list_all (rule.method_agrees image) image.methods ≡ true

pub tables : (image : Image) → rule.tables_agree image ≡ true → Tables image
tables image h =
    let p = nine (rule.parts_are_known image) (rule.names_have_form image) (rule.types_are_numbered image)
    (rule.sys_is_there image) (rule.component_has_table image) (rule.all_classes image (rule.class_agrees image))
    (rule.fields_agree image (length image.static_bytes) image.static_fields image.static_bytes)
    (list_all (rule.method_agrees image) image.methods) (rule.keeps_limits image) h in
    record { whole = agrees image h; component = p.4; methods = p.7 }

-- ---- fields

pub record FieldsRule (image : Image) (fields : List ImageField) : Type 0 where
  pub are_there : rule.object_fields_are_there image fields ≡ true
  pub inline : rule.objects_may_be_inline image fields ≡ true
  pub sized : list_all rule.n_is_of_form fields ≡ true

fields_rule : (image : Image) (size : ℕ) (fields : List ImageField) (bytes : List ℕ)
    → rule.fields_agree image size fields bytes ≡ true → FieldsRule image fields
fields_rule image size fields bytes h =
    let p = five (rule.object_fields_are_there image fields) (rule.objects_may_be_inline image fields)
    (list_all rule.n_is_of_form fields) (rule.fields_lie_apart image size fields)
    (rule.bytes_fit image fields bytes) h in
    record { are_there = p.0; inline = p.1; sized = p.2 }

pub statics_rule : (image : Image) → Tables image → FieldsRule image image.static_fields
statics_rule image is = fields_rule image (length image.static_bytes) image.static_fields image.static_bytes
    is.whole.statics

-- ---- classes

pub record ClassRule (image : Image) (class : ℕ) (c : ImageClass) : Type 0 where
  pub numbers : rule.class_numbers_are_there image c ≡ true
  pub grows : rule.with_base image (rule.grows_from_base c) c ≡ true
  pub keeps : rule.with_base image (rule.table_keeps_signatures image c) c ≡ true
  pub fields : FieldsRule image c.fields
  pub holders : rule.holds_no_holder image class c ≡ true
  pub slots : rule.slots_have_parts image c ≡ true
  pub table : rule.table_methods_fit image class c ≡ true

pub class_rule : (image : Image) → Tables image → (class : ℕ) (c : ImageClass)
    → slice_get image.classes class ≡ Some c → ClassRule image class c
class_rule image is class c e =
    let p = nine (rule.class_numbers_are_there image c) (rule.base_stands_before class c) (rule.is_marked image class c)
    (rule.with_base image (rule.grows_from_base c) c) (rule.with_base image (rule.table_keeps_signatures image c) c)
    (rule.fields_agree image (length c.contents) c.fields c.contents) (rule.holds_no_holder image class c)
    (rule.slots_have_parts image c) (rule.table_methods_fit image class c)
    (at_number (rule.class_agrees image) class image.classes c is.whole.classes e) in
    record {
      numbers = p.0;
      grows = p.3;
      keeps = p.4;
      fields = fields_rule image (length c.contents) c.fields c.contents p.5;
      holders = p.6;
      slots = p.7;
      table = p.8;
    }

-- what the rule says of each form: Strs and Bufs are short, and objects are of classes of which objects may be
abbrev pub IsGood : Image → FieldForm → Type 0
IsGood image (form.Prim p) = Unit {0}
IsGood image (form.Str n) = n ≤ 255
IsGood image (form.Buf n) = n ≤ 128
IsGood image (form.Array p n) = Unit {0}
IsGood image (form.Object t) = Concrete image t.0

pub form_object : (f : ImageField) → nat_le f.form 5 ≡ false → (f.form == 6) ≡ false → (f.form == 7) ≡ false
    → (f.form == 8) ≡ true → form_of f ≡ form.Object (record { 0 = f.n })
form_object f a b c d = rw (a, b, c, d) refl

pub form_array : (f : ImageField) → nat_le f.form 5 ≡ false → (f.form == 6) ≡ false → (f.form == 7) ≡ false
    → (f.form == 8) ≡ false → form_of f ≡ form.Array (primitive_of (f.form - 8)) f.n
form_array f a b c d = rw (a, b, c, d) refl

sized_str : (f : ImageField) → nat_le f.form 5 ≡ false → (f.form == 6) ≡ true
    → rule.n_is_of_form f ≡ (nat_le 1 f.n && nat_le f.n 255)
sized_str f a b = rw (a, b) refl

sized_buf : (f : ImageField) → nat_le f.form 5 ≡ false → (f.form == 6) ≡ false → (f.form == 7) ≡ true
    → rule.n_is_of_form f ≡ (nat_le 1 f.n && nat_le f.n 128)
sized_buf f a b c = rw (a, b, c) refl

pub stands_at : {X : Type 0} (xs : List X) (k : ℕ) → k < length xs → (x : X) × (slice_get xs k ≡ Some x)
stands_at [] k h = absurd (omega (arith, h))
stands_at (x ∷ xs) zero h = (x, refl)
stands_at (x ∷ xs) (suc k) h = stands_at xs k (omega (arith, h))

inline_concrete : (image : Image) (class : ℕ) (c : ImageClass) → slice_get image.classes class ≡ Some c
    → rule.none_or (option_and_then (λ d. Some (rule.may_be_inline d)) (slice_get image.classes class)) ≡ true
    → Concrete image class
inline_concrete image class c e h =
    let own : rule.may_be_inline c ≡ true =
    sym (ap (λ (o : Option ImageClass). rule.none_or (option_and_then (λ d. Some (rule.may_be_inline d)) o)) e) ∙ h in
    let p = three (not (rule.is_abstract_class c)) (not (rule.is_component c)) (nat_lt 0 (length c.contents)) own in
    record { info = c; stands = e; concrete = is_not (rule.is_abstract_class c) p.0 }

good_of : (image : Image) (fields : List ImageField) → FieldsRule image fields → (i : ℕ) (f : ImageField)
    → slice_get fields i ≡ Some f → IsGood image (form_of f)
good_of image fields r i f e =
    by_number (nat_le f.form 5) (f.form == 6) (f.form == 7) (f.form == 8) refl refl refl refl
  where
    sized : rule.n_is_of_form f ≡ true
    sized = passes rule.n_is_of_form fields i f r.sized e

    as_form : (of : FieldForm) → form_of f ≡ of → IsGood image of → IsGood image (form_of f)
    as_form of same h = subst (IsGood image) (sym same) h

    by_number : (x y z w : Bool) → nat_le f.form 5 ≡ x → (f.form == 6) ≡ y → (f.form == 7) ≡ z → (f.form == 8) ≡ w
        → IsGood image (form_of f)
    by_number true y z w ex ey ez ew = as_form (form.Prim (primitive_of f.form)) (form_prim f ex) tt
    by_number false true z w ex ey ez ew =
        as_form (form.Str f.n) (form_str f ex ey)
        (leb-true f.n 255 (two (nat_le 1 f.n) (nat_le f.n 255) (sym (sized_str f ex ey) ∙ sized)).1)
    by_number false false true w ex ey ez ew =
        as_form (form.Buf f.n) (form_buf f ex ey ez)
        (leb-true f.n 128 (two (nat_le 1 f.n) (nat_le f.n 128) (sym (sized_buf f ex ey ez) ∙ sized)).1)
    by_number false false false true ex ey ez ew =
        let known : rule.has_class image f.n ≡ true =
        second (f.form == 8) (rule.has_class image f.n) ew
        (passes (λ (g : ImageField). not (g.form == 8) || rule.has_class image g.n) fields i f r.are_there e) in
        let inline : rule.none_or (option_and_then (λ d. Some (rule.may_be_inline d)) (slice_get image.classes f.n))
        ≡ true =
        second (f.form == 8)
        (rule.none_or (option_and_then (λ d. Some (rule.may_be_inline d)) (slice_get image.classes f.n))) ew
        (passes (λ (g : ImageField). not (g.form == 8)
        || rule.none_or (option_and_then (λ d. Some (rule.may_be_inline d)) (slice_get image.classes g.n))) fields i f
        r.inline e) in
        let at = stands_at image.classes f.n (ltb-true f.n (length image.classes) known) in
        as_form (form.Object (record { 0 = f.n })) (form_object f ex ey ez ew)
        (inline_concrete image f.n at.0 at.1 inline)
    by_number false false false false ex ey ez ew =
        as_form (form.Array (primitive_of (f.form - 8)) f.n) (form_array f ex ey ez ew) tt

pub class_good : (image : Image) → Tables image → (class i : ℕ) (f : ImageField)
    → slice_get (class_fields image class) i ≡ Some f → IsGood image (form_of f)
class_good image is class i f e = by_class (slice_get image.classes class) refl
  where
    by_class : (o : Option ImageClass) → slice_get image.classes class ≡ o → IsGood image (form_of f)
    by_class None at =
        no_value f (sym (ap (λ (p : Option ImageClass). slice_get
        (option_map_or (λ (d : ImageClass). d.fields) p []) i) at) ∙ e)
    by_class (Some c) at =
        good_of image c.fields (class_rule image is class c at).fields i f
        (sym (ap (λ (all : List ImageField). slice_get all i) (fields_at image class c at)) ∙ e)

pub static_good : (image : Image) → Tables image → (i : ℕ) (f : ImageField)
    → slice_get image.static_fields i ≡ Some f → IsGood image (form_of f)
static_good image is i f e = good_of image image.static_fields (statics_rule image is) i f e

-- ---- methods

pub record MethodRule (image : Image) (m : ImageMethod) : Type 0 where
  pub params : list_all (rule.is_kind_of_cell image false) m.params ≡ true
  pub result : rule.is_kind_of_result image m.result ≡ true
  pub locals : list_all (rule.is_kind_of_cell image true) m.locals ≡ true
  pub begins : rule.locals_begin m ≡ true
  pub empty : rule.abstract_is_empty m ≡ true
  pub bytes : are_bytes m.code ≡ true

pub method_rule : (image : Image) → Tables image → (n : ℕ) (m : ImageMethod) → slice_get image.methods n ≡ Some m
    → MethodRule image m
method_rule image is n m e =
    let p = four (rule.has_class image m.class) (rule.kinds_are_there image m) (rule.abstract_is_empty m)
    (rule.locals_begin m) (passes (rule.method_agrees image) image.methods n m is.methods e) in
    let k = four (list_all (rule.is_kind_of_cell image false) m.params) (rule.is_kind_of_result image m.result)
    (list_all (rule.is_kind_of_cell image true) m.locals)
    (list_all (λ e. list_all (rule.is_kind_of_cell image true) e.locals
    && list_all (rule.is_kind_of_cell image true) e.stack) m.entries) p.1 in
    let b = four (nat_le m.flags 3) (rule.places_ascend 0 m.entries)
    (list_all (λ (x : ImageEntry). length x.locals == length m.locals) m.entries) (are_bytes m.code)
    (passes rule.method_is_known image.methods n m (known image is).1 e) in
    record { params = k.0; result = k.1; locals = k.2; begins = p.3; empty = p.2; bytes = b.3 }
  where
    known : (image : Image) → Tables image
        → (list_all rule.text_is_known image.texts ≡ true) × (list_all rule.method_is_known image.methods ≡ true)
    known image is =
        let parts = five (list_all rule.class_is_known image.classes)
        (list_all (λ (f : ImageField). is_field_form f.form) image.static_fields) (are_bytes image.static_bytes)
        (list_all rule.text_is_known image.texts) (list_all rule.method_is_known image.methods) is.whole.known in
        (parts.3, parts.4)

pub text_rule : (image : Image) → Tables image → (n : ℕ) (text : List ℕ) → slice_get image.texts n ≡ Some text
    → rule.text_is_known text ≡ true
text_rule image is n text e =
    let parts = five (list_all rule.class_is_known image.classes)
    (list_all (λ (f : ImageField). is_field_form f.form) image.static_fields) (are_bytes image.static_bytes)
    (list_all rule.text_is_known image.texts) (list_all rule.method_is_known image.methods) is.whole.known in
    passes rule.text_is_known image.texts n text parts.3 e
