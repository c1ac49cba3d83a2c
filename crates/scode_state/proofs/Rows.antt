-- Fields of one object: where they lie, apart from one another, each with bytes of its own.
use Rattle.std.proofs.Common.{◌≡◌, ◌≢◌, ◌<◌, ◌≤◌, ◌+◌, ◌*◌, ◌-◌, ◌==◌, ◌&&◌, ◌||◌, ◌⊎◌, inl, inr, not, nat_le, nat_lt, ℕ, zero, suc, Bool, true, false, if◌then◌else◌, List, [], ◌∷◌, length, Option, Some, None, refl, sym, ap, subst, ◌∙◌, arith}
use Rattle.std.specs.Prelude.{slice_get}
use Rattle.std.specs.List.{list_all}
use Rattle.std.specs.Option.{option_and_then, option_map_or}
use Rattle.std.proofs.lemmas.Bool.{and_parts, leb-true, ltb-true}
use Rattle.sed_value.specs.declared.slot_type.Primitive.{Primitive}
use Rattle.sed_value.specs.declared.slot_type.Primitive.TheVariants as prim
use Rattle.sed_value.specs.SlotType.{width_of}
use Rattle.sed_typed.specs.declared.program.FieldForm.{FieldForm}
use Rattle.sed_typed.specs.declared.program.FieldForm.TheVariants as form
use Rattle.scode_image.specs.declared.image.Image.{Image}
use Rattle.scode_image.specs.declared.image.ImageClass.{ImageClass}
use Rattle.scode_image.specs.declared.image.ImageField.{ImageField}
use Rattle.scode_code.specs.Contents.{class_bytes, data_size}
use Rattle.scode_code.specs.TableRules as rule
use Rattle.scode_code.specs.Tables.{class_fields, form_of, primitive_of}
use Rattle.scode_whole.proofs.Bases.{fields_at}
use Rattle.scode_whole.proofs.Rule.{Agrees}
use Rattle.scode_whole.proofs.Truths.{at_number, five, nine, no_truth, no_value, passes, same_value, three, two}
use Rattle.scode_state.specs.Values.{part_width}

-- ---- widths

pub primitive_wide : (p : Primitive) → 1 ≤ width_of p
primitive_wide prim.Bool = omega arith
primitive_wide prim.Byte = omega arith
primitive_wide prim.Short = omega arith
primitive_wide prim.Int = omega arith
primitive_wide prim.Long = omega arith

array_wide : (n : ℕ) (p : Primitive) → 1 ≤ n → 1 ≤ n * width_of p
array_wide n prim.Bool h = omega (arith, h)
array_wide n prim.Byte h = omega (arith, h)
array_wide n prim.Short h = omega (arith, h)
array_wide n prim.Int h = omega (arith, h)
array_wide n prim.Long h = omega (arith, h)

-- the form of a field, by the tests of its number
abbrev pub form_by : Bool → Bool → Bool → Bool → ImageField → FieldForm
form_by a b c d f =
    if a then form.Prim (primitive_of f.form) else if b then form.Str f.n else if c then form.Buf f.n
    else if d then form.Object (record { 0 = f.n }) else form.Array (primitive_of (f.form - 8)) f.n

abbrev width_by : Image → Bool → Bool → Bool → Bool → ImageField → ℕ
width_by image a b c d f =
    if a then width_of (primitive_of f.form) else if b then f.n else if c then f.n + 2
    else if d then option_map_or (λ (c : ImageClass). length c.contents) (slice_get image.classes f.n) 0
    else f.n * width_of (primitive_of (f.form - 8))

abbrev sized_by : Bool → Bool → Bool → Bool → ImageField → Bool
sized_by a b c d f =
    if a then f.n == 0 else if b then nat_le 1 f.n && nat_le f.n 255 else if c then nat_le 1 f.n && nat_le f.n 128
    else if d then true else nat_le 1 f.n

data_is : (o : Option ImageClass)
    → length (option_map_or (λ (c : ImageClass). c.contents) o []) ≡ option_map_or (λ (c : ImageClass). length c.contents) o 0
data_is None = refl
data_is (Some c) = refl

pub width_same : (image : Image) (f : ImageField) → part_width image (form_of f) ≡ rule.field_width image f
width_same image f = by_number (nat_le f.form 5) (f.form == 6) (f.form == 7) (f.form == 8)
  where
    by_number : (a b c d : Bool) → part_width image (form_by a b c d f) ≡ width_by image a b c d f
    by_number true b c d = refl
    by_number false true c d = refl
    by_number false false true d = refl
    by_number false false false true = data_is (slice_get image.classes f.n)
    by_number false false false false = refl

-- ---- what is said of a field

stands_at : {X : Type 0} (xs : List X) (k : ℕ) → k < length xs → (x : X) × (slice_get xs k ≡ Some x)
stands_at [] k h = absurd (omega (arith, h))
stands_at (x ∷ xs) zero h = (x, refl)
stands_at (x ∷ xs) (suc k) h = stands_at xs k (omega (arith, h))

abbrev may_hold : Image → ImageField → Bool
may_hold image f =
    rule.none_or (option_and_then (λ (c : ImageClass). Some (rule.may_be_inline c)) (slice_get image.classes f.n))

object_wide : (image : Image) (f : ImageField) → rule.has_class image f.n ≡ true → may_hold image f ≡ true
    → 1 ≤ data_size image f.n
object_wide image f known may =
    let at = stands_at image.classes f.n (ltb-true f.n (length image.classes) known) in
    let own : rule.may_be_inline at.0 ≡ true =
    sym (ap (λ (o : Option ImageClass). rule.none_or (option_and_then (λ (c : ImageClass). Some (rule.may_be_inline c)) o)) at.1)
    ∙ may in
    let p = three (not (rule.is_abstract_class at.0)) (not (rule.is_component at.0)) (nat_lt 0 (length at.0.contents)) own in
    let some : 0 < length at.0.contents = ltb-true 0 (length at.0.contents) p.2 in
    let same : length at.0.contents ≡ data_size image f.n =
    sym (ap (λ (o : Option ImageClass). length (option_map_or (λ (c : ImageClass). c.contents) o [])) at.1) in
    omega (arith, some, same)

wide_field : (image : Image) (f : ImageField) → rule.n_is_of_form f ≡ true
    → (not (f.form == 8) || rule.has_class image f.n) ≡ true → (not (f.form == 8) || may_hold image f) ≡ true
    → 1 ≤ part_width image (form_of f)
wide_field image f h known may =
    by_number (nat_le f.form 5) (f.form == 6) (f.form == 7) (f.form == 8) h known may
  where
    by_number : (a b c d : Bool) → sized_by a b c d f ≡ true → (not d || rule.has_class image f.n) ≡ true
        → (not d || may_hold image f) ≡ true → 1 ≤ part_width image (form_by a b c d f)
    by_number true b c d h known may = primitive_wide (primitive_of f.form)
    by_number false true c d h known may = leb-true 1 f.n (and_parts (nat_le 1 f.n) (nat_le f.n 255) h).0
    by_number false false true d h known may =
        let some = leb-true 1 f.n (and_parts (nat_le 1 f.n) (nat_le f.n 128) h).0 in omega (arith, some)
    by_number false false false true h known may = object_wide image f known may
    by_number false false false false h known may = array_wide f.n (primitive_of (f.form - 8)) (leb-true 1 f.n h)

-- ---- apart

-- one range of bytes ends where the other begins, or before
abbrev pub AreApart : ℕ → ℕ → ℕ → ℕ → Type 0
AreApart a width b other = (a + width ≤ b) ⊎ (b + other ≤ a)

pub turned : (a width b other : ℕ) → AreApart a width b other → AreApart b other a width
turned a width b other (inl h) = inr h
turned a width b other (inr h) = inl h

-- what is said of two fields by their places
abbrev FieldsApart : Image → ImageField → ImageField → Type 0
FieldsApart image f g = AreApart f.offset (part_width image (form_of f)) g.offset (part_width image (form_of g))

tested : (image : Image) (f g : ImageField) → rule.are_apart image f g ≡ true → FieldsApart image f g
tested image f g h =
    let x = width_same image f in
    let y = width_same image g in
    by_test (nat_le (f.offset + rule.field_width image f) g.offset) refl h
  where
    by_test : (b : Bool) → nat_le (f.offset + rule.field_width image f) g.offset ≡ b
        → (b || nat_le (g.offset + rule.field_width image g) f.offset) ≡ true → FieldsApart image f g
    by_test true e h =
        let low = leb-true (f.offset + rule.field_width image f) g.offset e in
        let same = width_same image f in
        inl (omega (arith, low, same))
    by_test false e h =
        let low = leb-true (g.offset + rule.field_width image g) f.offset h in
        let same = width_same image g in
        inr (omega (arith, low, same))

apart_at : (image : Image) (fields : List ImageField) → rule.all_apart image fields ≡ true → (i j : ℕ)
    (f g : ImageField) → slice_get fields i ≡ Some f → slice_get fields j ≡ Some g → i ≢ j → FieldsApart image f g
apart_at image [] h i j f g at other ne = no_value f at
apart_at image (x ∷ xs) h zero zero f g at other ne = absurd (ne refl)
apart_at image (x ∷ xs) h zero (suc j) f g at other ne =
    let p = and_parts (list_all (rule.are_apart image x) xs) (rule.all_apart image xs) h in
    tested image f g
    (subst (λ (y : ImageField). rule.are_apart image y g ≡ true) (same_value x f at)
    (passes (rule.are_apart image x) xs j g p.0 other))
apart_at image (x ∷ xs) h (suc i) zero f g at other ne =
    let p = and_parts (list_all (rule.are_apart image x) xs) (rule.all_apart image xs) h in
    turned g.offset (part_width image (form_of g)) f.offset (part_width image (form_of f))
    (tested image g f
    (subst (λ (y : ImageField). rule.are_apart image y f ≡ true) (same_value x g other)
    (passes (rule.are_apart image x) xs i f p.0 at)))
apart_at image (x ∷ xs) h (suc i) (suc j) f g at other ne =
    apart_at image xs (and_parts (list_all (rule.are_apart image x) xs) (rule.all_apart image xs) h).1 i j f g at other
    (λ e. ne (ap suc e))

-- ---- the fields of a class, and of the static block

-- fields of an object of so many bytes: each lies in them and has some, and no two overlap
pub record Row (image : Image) (size : ℕ) (fields : List ImageField) : Type 0 where
  pub within : (i : ℕ) (f : ImageField) → slice_get fields i ≡ Some f
      → f.offset + part_width image (form_of f) ≤ size
  pub apart : (i j : ℕ) (f g : ImageField) → slice_get fields i ≡ Some f → slice_get fields j ≡ Some g → i ≢ j
      → AreApart f.offset (part_width image (form_of f)) g.offset (part_width image (form_of g))
  pub wide : (i : ℕ) (f : ImageField) → slice_get fields i ≡ Some f → 1 ≤ part_width image (form_of f)
  pub known : (i : ℕ) (f : ImageField) → slice_get fields i ≡ Some f → (f.form == 8) ≡ true
      → f.n < length image.classes

row_of : (image : Image) (size : ℕ) (fields : List ImageField) (bytes : List ℕ)
    → rule.fields_agree image size fields bytes ≡ true → Row image size fields
row_of image size fields bytes h =
    let p = five (rule.object_fields_are_there image fields) (rule.objects_may_be_inline image fields)
    (list_all rule.n_is_of_form fields) (rule.fields_lie_apart image size fields)
    (rule.bytes_fit image fields bytes) h in
    let lie = two (list_all (λ (f : ImageField). nat_le (f.offset + rule.field_width image f) size) fields)
    (rule.all_apart image fields) p.3 in
    record {
      within = λ i f at.
          let low = leb-true (f.offset + rule.field_width image f) size
          (passes (λ (g : ImageField). nat_le (g.offset + rule.field_width image g) size) fields i f lie.0 at) in
          let same = width_same image f in
          omega (arith, low, same);
      apart = λ i j f g at other ne. apart_at image fields lie.1 i j f g at other ne;
      wide = λ i f at. wide_field image f (passes rule.n_is_of_form fields i f p.2 at)
          (passes (λ (g : ImageField). not (g.form == 8) || rule.has_class image g.n) fields i f p.0 at)
          (passes (λ (g : ImageField). not (g.form == 8) || may_hold image g) fields i f p.1 at);
      known = λ i f at object. ltb-true f.n (length image.classes)
          (asked (f.form == 8) (rule.has_class image f.n) object
          (passes (λ (g : ImageField). not (g.form == 8) || rule.has_class image g.n) fields i f p.0 at));
    }
  where
    asked : (a b : Bool) → a ≡ true → (not a || b) ≡ true → b ≡ true
    asked true b e h = h
    asked false b e h = no_truth e

pub static_row : (image : Image) → Agrees image → Row image (length image.static_bytes) image.static_fields
static_row image is = row_of image (length image.static_bytes) image.static_fields image.static_bytes is.statics

pub class_rule : (image : Image) → Agrees image → (class : ℕ) (c : ImageClass) → slice_get image.classes class ≡ Some c
    → Row image (length c.contents) c.fields
class_rule image is class c e =
    let p = nine (rule.class_numbers_are_there image c) (rule.base_stands_before class c) (rule.is_marked image class c)
    (rule.with_base image (rule.grows_from_base c) c) (rule.with_base image (rule.table_keeps_signatures image c) c)
    (rule.fields_agree image (length c.contents) c.fields c.contents) (rule.holds_no_holder image class c)
    (rule.slots_have_parts image c) (rule.table_methods_fit image class c)
    (at_number (rule.class_agrees image) class image.classes c is.classes e) in
    row_of image (length c.contents) c.fields c.contents p.5

empty_row : (image : Image) (size : ℕ) → Row image size []
empty_row image size = record {
  within = λ i f at. no_value f at;
  apart = λ i j f g at other ne. no_value f at;
  wide = λ i f at. no_value f at;
  known = λ i f at object. no_value f at;
}

-- a number that no class has is as one without fields
pub class_row : (image : Image) → Agrees image → (class : ℕ) → Row image (data_size image class) (class_fields image class)
class_row image is class = by_class (slice_get image.classes class) refl
  where
    by_class : (o : Option ImageClass) → slice_get image.classes class ≡ o
        → Row image (data_size image class) (class_fields image class)
    by_class None e =
        subst (λ (all : List ImageField). Row image (data_size image class) all)
        (sym (ap (λ (o : Option ImageClass). option_map_or (λ (c : ImageClass). c.fields) o []) e))
        (empty_row image (data_size image class))
    by_class (Some c) e =
        subst (λ (all : List ImageField). Row image (data_size image class) all) (sym (fields_at image class c e))
        (subst (λ (n : ℕ). Row image n c.fields)
        (sym (ap (λ (o : Option ImageClass). length (option_map_or (λ (d : ImageClass). d.contents) o [])) e))
        (class_rule image is class c e))
