-- First contents of an image whose tables agree fit the fields of their classes.
use Rattle.std.proofs.Common.{◌≡◌, ℕ, zero, suc, ◌+◌, ◌-◌, ◌*◌, ◌<◌, ◌≤◌, ◌==◌, ◌&&◌, ◌||◌, not, nat_le, nat_lt, if◌then◌else◌, Bool, true, false, List, [], ◌∷◌, ◌++◌, length, map, drop, Option, Some, None, refl, sym, ap, subst, ◌∙◌, arith, append_assoc, append-nil}
use Rattle.std.specs.Prelude.{slice_get}
use Rattle.std.specs.List.{enumerate_from, flat_map, list_all, range_with_len}
use Rattle.std.specs.Option.{option_map_or}
use Rattle.std.specs.Str.{bytes_eq}
use Rattle.std.proofs.lemmas.Bool.{and_from, and_parts, leb-true, ltb-true}
use Rattle.std.proofs.lemmas.Bool.Decides.{nat_tests}
use Rattle.std.proofs.lemmas.List.{length-drop}
use Rattle.std.proofs.lemmas.Slice.Eq.{bytes_eq-Decides}
use Rattle.sed_value.specs.declared.slot_type.Primitive.{Primitive}
use Rattle.sed_value.specs.declared.value.Value.{Value}
use Rattle.sed_value.specs.declared.value.Value.TheVariants as kept
use Rattle.sed_value.specs.SlotType.{width_of}
use Rattle.sed_value.specs.Value.{are_bytes}
use Rattle.sed_typed.specs.declared.program.FieldForm.{FieldForm}
use Rattle.sed_typed.specs.declared.program.FieldForm.TheVariants as form
use Rattle.sed_typed.specs.Contents.{Contents, Path, Shape}
use Rattle.sed_engine.specs.Fits.{all_kept, form_at, form_below, form_of as form_in, is_kept, keeps, part_of}
use Rattle.sed_engine.proofs.FirstPaths.{IsLeaf, has}
use Rattle.scode_image.specs.declared.image.Image.{Image}
use Rattle.scode_image.specs.declared.image.ImageClass.{ImageClass}
use Rattle.scode_image.specs.declared.image.ImageField.{ImageField}
use Rattle.scode_code.specs.Contents.{buf_at, bytes_at, field_held, fields_held, initial, initial_statics, object_held, primitive_at}
use Rattle.scode_code.specs.TableRules as rule
use Rattle.scode_code.specs.Tables.{class_fields, form_of, primitive_of, shape_of}
use Rattle.scode_whole.proofs.Truths.{in_all, no_truth, no_value, passes, two}
use Rattle.scode_whole.proofs.Rule.{Agrees, ClassAgrees, FieldsAgree, StaticsAgree, class_agrees, statics_agree}
use Rattle.scode_whole.proofs.Bases.{fields_at}
use Rattle.scode_whole.proofs.SlotFields.{form_buf, form_prim, form_str}
use Rattle.scode_whole.proofs.FirstBytes.{buf_kept, bytes_behind, primitive_kept, str_kept}
use Rattle.sed_value.proofs.Lists.{item_there as there_at}

-- ---- what is kept

all_kept-append : (F : Path → Option FieldForm) (a b : Contents) → all_kept F a ≡ true → all_kept F b ≡ true
    → all_kept F (a ++ b) ≡ true
all_kept-append F [] b x y = y
all_kept-append F (e ∷ es) b x y =
    let p = and_parts (is_kept (F e.0) e.1) (all_kept F es) x in
    and_from (is_kept (F e.0) e.1) (all_kept F (es ++ b)) p.0 (all_kept-append F es b p.1 y)

-- what F says behind a path is what stands inside this form
abbrev Agree : (ℕ → List Shape) → (Path → Option FieldForm) → Path → Option FieldForm → Type 0
Agree shapes F path f = (rest : Path) → F (path ++ rest) ≡ form_below shapes rest f

here : (shapes : ℕ → List Shape) (F : Path → Option FieldForm) (path : Path) (f : FieldForm)
    → Agree shapes F path (Some f)
    → F path ≡ Some f
here shapes F path f a = ap F (sym (append-nil path)) ∙ a []

-- behind one more number is the part of this number
inside_form : (shapes : ℕ → List Shape) (F : Path → Option FieldForm) (path : Path) (f : FieldForm)
    → Agree shapes F path (Some f) → (i : ℕ) → Agree shapes F (path ++ i ∷ []) (part_of shapes f i)
inside_form shapes F path f a i rest = ap F (append_assoc path (i ∷ []) rest) ∙ a (i ∷ rest)

one_kept : (F : Path → Option FieldForm) (path : Path) (f : FieldForm) (v : Value) → F path ≡ Some f → keeps f v ≡ true
    → all_kept F ((path, v) ∷ []) ≡ true
one_kept F path f v e k =
    ap (λ (o : Option FieldForm). is_kept o v && true) e ∙ and_from (keeps f v) true k refl

-- the fields of an object or the statics at a path stand behind it, from number k on
abbrev Inside : (ℕ → List Shape) → (Path → Option FieldForm) → Path → ℕ → List ImageField → Type 0
Inside shapes F path k all = (i j : ℕ) → i ≡ k + j → Agree shapes F (path ++ i ∷ []) (form_at (map shape_of all) j)

-- ---- by the number of a form

form_object : (f : ImageField) → nat_le f.form 5 ≡ false → (f.form == 6) ≡ false → (f.form == 7) ≡ false
    → (f.form == 8) ≡ true → form_of f ≡ form.Object (record { 0 = f.n })
form_object f a b c d = rw (a, b, c, d) refl

form_array : (f : ImageField) → nat_le f.form 5 ≡ false → (f.form == 6) ≡ false → (f.form == 7) ≡ false
    → (f.form == 8) ≡ false → form_of f ≡ form.Array (primitive_of (f.form - 8)) f.n
form_array f a b c d = rw (a, b, c, d) refl

abbrev Deeper : Type 0
Deeper = ℕ → List ℕ → Bool

fits_prim : (object : Deeper) (bytes : List ℕ) (f : ImageField) → nat_le f.form 5 ≡ true
    → rule.field_fits object bytes f ≡ rule.primitive_fits f.form bytes f.offset
fits_prim object bytes f a = rw a refl

fits_str : (object : Deeper) (bytes : List ℕ) (f : ImageField) → nat_le f.form 5 ≡ false → (f.form == 6) ≡ true
    → rule.field_fits object bytes f ≡ rule.str_fits f.n bytes f.offset
fits_str object bytes f a b = rw (a, b) refl

fits_buf : (object : Deeper) (bytes : List ℕ) (f : ImageField) → nat_le f.form 5 ≡ false → (f.form == 6) ≡ false
    → (f.form == 7) ≡ true → rule.field_fits object bytes f ≡ rule.buf_fits f.n bytes f.offset
fits_buf object bytes f a b c = rw (a, b, c) refl

fits_object : (object : Deeper) (bytes : List ℕ) (f : ImageField) → nat_le f.form 5 ≡ false → (f.form == 6) ≡ false
    → (f.form == 7) ≡ false → (f.form == 8) ≡ true
    → rule.field_fits object bytes f ≡ object f.n (drop f.offset bytes)
fits_object object bytes f a b c d = rw (a, b, c, d) refl

fits_array : (object : Deeper) (bytes : List ℕ) (f : ImageField) → nat_le f.form 5 ≡ false → (f.form == 6) ≡ false
    → (f.form == 7) ≡ false → (f.form == 8) ≡ false
    → rule.field_fits object bytes f ≡ rule.array_fits (f.form - 8) f.n bytes f.offset
fits_array object bytes f a b c d = rw (a, b, c, d) refl

width_str : (image : Image) (f : ImageField) → nat_le f.form 5 ≡ false → (f.form == 6) ≡ true
    → rule.field_width image f ≡ f.n
width_str image f a b = rw (a, b) refl

width_object : (image : Image) (f : ImageField) → nat_le f.form 5 ≡ false → (f.form == 6) ≡ false
    → (f.form == 7) ≡ false
    → (f.form == 8) ≡ true
    → rule.field_width image f ≡ option_map_or (λ (c : ImageClass). length c.contents) (slice_get image.classes f.n) 0
width_object image f a b c d = rw (a, b, c, d) refl

sized_str : (f : ImageField) → nat_le f.form 5 ≡ false → (f.form == 6) ≡ true
    → rule.n_is_of_form f ≡ (nat_le 1 f.n && nat_le f.n 255)
sized_str f a b = rw (a, b) refl

-- ---- a field that is there

-- what the rule says of a field in so many bytes
record FieldIs (image : Image) (size : ℕ) (f : ImageField) : Type 0 where
  within : f.offset + rule.field_width image f ≤ size
  sized : rule.n_is_of_form f ≡ true
  there : (not (f.form == 8) || rule.has_class image f.n) ≡ true

abbrev FieldsAre : Image → ℕ → List ImageField → Type 0
FieldsAre image size fields = (k : ℕ) (f : ImageField) → slice_get fields k ≡ Some f → FieldIs image size f

fields_are : (image : Image) (size : ℕ) (fields : List ImageField) (bytes : List ℕ)
    → FieldsAgree image size fields bytes
    → FieldsAre image size fields
fields_are image size fields bytes a k f e =
    let lie = two (list_all (λ (g : ImageField). nat_le (g.offset + rule.field_width image g) size) fields)
    (rule.all_apart image fields) a.apart in
    record {
      within = leb-true (f.offset + rule.field_width image f) size
          (passes (λ (g : ImageField). nat_le (g.offset + rule.field_width image g) size) fields k f lie.0 e);
      sized = passes rule.n_is_of_form fields k f a.of_form e;
      there = passes (λ (g : ImageField). not (g.form == 8) || rule.has_class image g.n) fields k f a.are_there e;
    }

second : (a b : Bool) → a ≡ true → (not a || b) ≡ true → b ≡ true
second true b e h = h
second false b e h = no_truth e

-- ---- elements of an array

elements_kept : (shapes : ℕ → List Shape) (F : Path → Option FieldForm) (path : Path) (number n : ℕ) (bytes : List ℕ)
    (offset : ℕ) → are_bytes bytes ≡ true → rule.array_fits number n bytes offset ≡ true
    → Agree shapes F path (Some (form.Array (primitive_of number) n)) → (k left : ℕ) → k + left ≡ n
    → all_kept F
    (map (λ i. (path ++ i ∷ [], primitive_at (primitive_of number) bytes (offset + i * width_of (primitive_of number))))
    (range_with_len k left))
    ≡ true
elements_kept shapes F path number n bytes offset good fits a k zero e = refl
elements_kept shapes F path number n bytes offset good fits a k (suc left) e =
    let p : Primitive = primitive_of number in
    let inside : k < n = omega (arith, e) in
    let less : nat_lt k n ≡ true = grind (arith, nat_tests, e) in
    let is : F (path ++ k ∷ []) ≡ Some (form.Prim (primitive_of number)) =
    here shapes F (path ++ k ∷ []) (form.Prim (primitive_of number))
    (λ rest. inside_form shapes F path (form.Array (primitive_of number) n) a k rest
    ∙ ap (λ (b : Bool). form_below shapes rest (if b then Some (form.Prim (primitive_of number)) else None)) less) in
    let one : rule.primitive_fits number bytes (offset + k * width_of (primitive_of number)) ≡ true =
    in_all (λ (i : ℕ). rule.primitive_fits number bytes (offset + i * width_of
    (primitive_of number))) n k fits inside in
    all_kept-append F
    ((path ++ k ∷ [], primitive_at (primitive_of number) bytes (offset + k * width_of (primitive_of number))) ∷ [])
    (map (λ i. (path ++ i ∷ [], primitive_at (primitive_of number) bytes (offset + i * width_of (primitive_of number))))
    (range_with_len (k + 1) left))
    (one_kept F (path ++ k ∷ []) (form.Prim (primitive_of number))
    (primitive_at (primitive_of number) bytes (offset + k * width_of (primitive_of number))) is
    (primitive_kept number bytes (offset + k * width_of (primitive_of number)) good one))
    (elements_kept shapes F path number n bytes offset good fits a (k + 1) left (omega (arith, e)))

-- ---- objects

module _ (image : Image) (is : Agrees image) (F : Path → Option FieldForm) where
  abbrev shapes : ℕ → List Shape
  shapes c = map shape_of (class_fields image c)

  -- objects of each class, in bytes that fit and at paths where their fields stand
  abbrev ObjectsKept : ℕ → Type 0
  ObjectsKept depth = (class : ℕ) (c : ImageClass) → slice_get image.classes class ≡ Some c
      → (path : Path) (bytes : List ℕ)
      → are_bytes bytes ≡ true → length c.contents ≤ length bytes → rule.object_fits depth image class bytes ≡ true
      → Inside shapes F path 0 c.fields → all_kept F (object_held image depth class path bytes) ≡ true

  object_kept : (depth : ℕ) → ObjectsKept depth → (path : Path) (bytes : List ℕ) (size : ℕ) (f : ImageField)
      → FieldIs image size f → size ≤ length bytes → are_bytes bytes ≡ true
      → rule.field_width image f
      ≡ option_map_or (λ (c : ImageClass). length c.contents) (slice_get image.classes f.n) 0
      → (f.form == 8) ≡ true → rule.object_fits depth image f.n (drop f.offset bytes) ≡ true
      → Agree shapes F path (Some (form.Object (record { 0 = f.n })))
      → all_kept F (object_held image depth f.n path (drop f.offset bytes)) ≡ true
  object_kept depth objects path bytes size f g long good width d fits a =
      let known : f.n < length image.classes =
      ltb-true f.n (length image.classes) (second (f.form == 8) (rule.has_class image f.n) d g.there) in
      let at = there_at image.classes f.n known in
      let wide : rule.field_width image f ≡ length at.0.contents =
      width
      ∙ ap (λ (o : Option ImageClass). option_map_or (λ (c : ImageClass). length c.contents) o 0) at.1 in
      let behind : length (drop f.offset bytes) ≡ length bytes - f.offset = length-drop f.offset bytes in
      let room : f.offset + rule.field_width image f ≤ size = g.within in
      objects f.n at.0 at.1 path (drop f.offset bytes) (bytes_behind f.offset bytes good)
      (omega (arith, wide, behind, room, long)) fits
      (λ i j e rest.
      ap (λ (m : ℕ). F ((path ++ m ∷ []) ++ rest)) (let s : i ≡ j = omega (arith, e) in s)
      ∙ inside_form shapes F path (form.Object (record { 0 = f.n })) a j rest
      ∙ ap (λ (all : List ImageField). form_below shapes rest (form_at (map shape_of all) j))
      (fields_at image f.n at.0 at.1))

  field_kept : (depth : ℕ) → ObjectsKept depth → (path : Path) (bytes : List ℕ) (size : ℕ) (f : ImageField)
      → FieldIs image size f → size ≤ length bytes → are_bytes bytes ≡ true
      → rule.field_fits (rule.object_fits depth image) bytes f ≡ true → Agree shapes F path (Some (form_of f))
      → all_kept F (field_held (object_held image depth) path (form_of f) bytes f.offset) ≡ true
  field_kept depth objects path bytes size f g long good fits a =
      by_number (nat_le f.form 5) (f.form == 6) (f.form == 7) (f.form == 8) refl refl refl refl
    where
      begun : FieldForm → Contents
      begun of = field_held (object_held image depth) path of bytes f.offset

      agree : (of : FieldForm) → form_of f ≡ of → Agree shapes F path (Some of)
      agree of e = subst (λ (h : FieldForm). Agree shapes F path (Some h)) e a

      as_form : (of : FieldForm) → form_of f ≡ of
          → all_kept F (field_held (object_held image depth) path of bytes f.offset) ≡ true
          → all_kept F (field_held (object_held image depth) path (form_of f) bytes f.offset) ≡ true
      as_form of e h =
          subst (λ (x : FieldForm). all_kept F (field_held (object_held image depth) path x bytes f.offset) ≡ true)
          (sym e) h

      by_number : (x y z w : Bool) → nat_le f.form 5 ≡ x → (f.form == 6) ≡ y → (f.form == 7) ≡ z → (f.form == 8) ≡ w
          → all_kept F (field_held (object_held image depth) path (form_of f) bytes f.offset) ≡ true
      by_number true y z w ex ey ez ew =
          let of : form_of f ≡ form.Prim (primitive_of f.form) = form_prim f ex in
          as_form (form.Prim (primitive_of f.form)) of
          (one_kept F path (form.Prim (primitive_of f.form)) (primitive_at (primitive_of f.form) bytes f.offset)
          (here shapes F path (form.Prim (primitive_of f.form)) (agree (form.Prim (primitive_of f.form)) of))
          (primitive_kept f.form bytes f.offset good (sym (fits_prim (rule.object_fits depth image) bytes f ex)
          ∙ fits)))
      by_number false true z w ex ey ez ew =
          let of : form_of f ≡ form.Str f.n = form_str f ex ey in
          let some : 1 ≤ f.n =
          leb-true 1 f.n (and_parts (nat_le 1 f.n) (nat_le f.n 255) (sym (sized_str f ex ey) ∙ g.sized)).0 in
          let wide : rule.field_width image f ≡ f.n = width_str image f ex ey in
          let room : f.offset + rule.field_width image f ≤ size = g.within in
          as_form (form.Str f.n) of
          (one_kept F path (form.Str f.n) (kept.Buf (bytes_at bytes f.offset f.n))
          (here shapes F path (form.Str f.n) (agree (form.Str f.n) of))
          (str_kept f.n bytes f.offset good some (omega (arith, wide, room, long))
          (sym (fits_str (rule.object_fits depth image) bytes f ex ey) ∙ fits)))
      by_number false false true w ex ey ez ew =
          let of : form_of f ≡ form.Buf f.n = form_buf f ex ey ez in
          as_form (form.Buf f.n) of
          (one_kept F path (form.Buf f.n) (buf_at bytes f.offset)
          (here shapes F path (form.Buf f.n) (agree (form.Buf f.n) of))
          (buf_kept f.n bytes f.offset good (sym (fits_buf (rule.object_fits depth image) bytes f ex ey ez) ∙ fits)))
      by_number false false false true ex ey ez ew =
          let of : form_of f ≡ form.Object (record { 0 = f.n }) = form_object f ex ey ez ew in
          as_form (form.Object (record { 0 = f.n })) of
          (object_kept depth objects path bytes size f g long good (width_object image f ex ey ez ew) ew
          (sym (fits_object (rule.object_fits depth image) bytes f ex ey ez ew) ∙ fits)
          (agree (form.Object (record { 0 = f.n })) of))
      by_number false false false false ex ey ez ew =
          let of : form_of f ≡ form.Array (primitive_of (f.form - 8)) f.n = form_array f ex ey ez ew in
          let none : 0 + f.n ≡ f.n = omega arith in
          as_form (form.Array (primitive_of (f.form - 8)) f.n) of
          (elements_kept shapes F path (f.form - 8) f.n bytes f.offset good
          (sym (fits_array (rule.object_fits depth image) bytes f ex ey ez ew) ∙ fits)
          (agree (form.Array (primitive_of (f.form - 8)) f.n) of) 0 f.n none)

  fields_kept : (depth : ℕ) → ObjectsKept depth → (path : Path) (bytes : List ℕ) (size k : ℕ) (all : List ImageField)
      → FieldsAre image size all → size ≤ length bytes → are_bytes bytes ≡ true
      → list_all (rule.field_fits (rule.object_fits depth image) bytes) all ≡ true → Inside shapes F path k all
      → all_kept F
      (flat_map (λ (at : ℕ × ImageField). field_held (object_held image depth) (path ++ at.0 ∷ [])
      (form_of at.1) bytes at.1.offset)
      (enumerate_from k all))
      ≡ true
  fields_kept depth objects path bytes size k [] each long good fits within = refl
  fields_kept depth objects path bytes size k (f ∷ fs) each long good fits within =
      let p = and_parts (rule.field_fits (rule.object_fits depth image) bytes f)
      (list_all (rule.field_fits (rule.object_fits depth image) bytes) fs) fits in
      all_kept-append F (field_held (object_held image depth) (path ++ k ∷ []) (form_of f) bytes f.offset)
      (flat_map (λ (at : ℕ × ImageField). field_held (object_held image depth) (path ++ at.0 ∷ [])
      (form_of at.1) bytes at.1.offset)
      (enumerate_from (k + 1) fs))
      (field_kept depth objects (path ++ k ∷ []) bytes size f (each 0 f refl) long good p.0 (within k 0 (omega arith)))
      (fields_kept depth objects path bytes size (k + 1) fs (λ j g e. each (suc j) g e) long good p.1
      (λ i j e. within i (suc j) (omega (arith, e))))

  objects_kept : (depth : ℕ) → ObjectsKept depth
  objects_kept zero class c at path bytes good long fits within = refl
  objects_kept (suc depth) class c at path bytes good long fits within =
      let a : ClassAgrees image class c = class_agrees image is class c at in
      let own : list_all (rule.field_fits (rule.object_fits depth image) bytes) c.fields ≡ true =
      sym (ap (λ (all : List ImageField). list_all (rule.field_fits (rule.object_fits depth image) bytes) all)
      (fields_at image class c at)) ∙ fits in
      subst (λ (all : List ImageField). all_kept F (fields_held (object_held image depth) path all bytes) ≡ true)
      (sym (fields_at image class c at))
      (fields_kept depth (objects_kept depth) path bytes (length c.contents) 0 c.fields
      (fields_are image (length c.contents) c.fields c.contents a.fields) long good own within)

-- ---- bytes that fit to some depth fit to any less

field_less : (o p : Deeper) → ((t : ℕ) (bytes : List ℕ) → o t bytes ≡ true → p t bytes ≡ true) → (bytes : List ℕ)
    (f : ImageField) → rule.field_fits o bytes f ≡ true → rule.field_fits p bytes f ≡ true
field_less o p more bytes f h = by_number (nat_le f.form 5) (f.form == 6) (f.form == 7) (f.form == 8) h
  where
    by_number : (a b c d : Bool)
        → (if a then rule.primitive_fits f.form bytes f.offset else if b then rule.str_fits f.n bytes f.offset
        else if c then rule.buf_fits f.n bytes f.offset else if d then o f.n (drop f.offset bytes)
        else rule.array_fits (f.form - 8) f.n bytes f.offset)
        ≡ true
        → (if a then rule.primitive_fits f.form bytes f.offset else if b then rule.str_fits f.n bytes f.offset
        else if c then rule.buf_fits f.n bytes f.offset else if d then p f.n (drop f.offset bytes)
        else rule.array_fits (f.form - 8) f.n bytes f.offset)
        ≡ true
    by_number true b c d h = h
    by_number false true c d h = h
    by_number false false true d h = h
    by_number false false false true h = more f.n (drop f.offset bytes) h
    by_number false false false false h = h

fields_less : (o p : Deeper) → ((t : ℕ) (bytes : List ℕ) → o t bytes ≡ true → p t bytes ≡ true) → (bytes : List ℕ)
    (all : List ImageField) → list_all (rule.field_fits o bytes) all ≡ true
    → list_all (rule.field_fits p bytes) all ≡ true
fields_less o p more bytes [] h = refl
fields_less o p more bytes (f ∷ fs) h =
    let q = and_parts (rule.field_fits o bytes f) (list_all (rule.field_fits o bytes) fs) h in
    and_from (rule.field_fits p bytes f) (list_all (rule.field_fits p bytes) fs) (field_less o p more bytes f q.0)
    (fields_less o p more bytes fs q.1)

fits_less : (image : Image) (depth class : ℕ) (bytes : List ℕ) → rule.object_fits (suc depth) image class bytes ≡ true
    → rule.object_fits depth image class bytes ≡ true
fits_less image zero class bytes h = refl
fits_less image (suc depth) class bytes h =
    fields_less (rule.object_fits (suc depth) image) (rule.object_fits depth image)
    (λ t bs e. fits_less image depth t bs e) bytes (class_fields image class) h

-- ---- from the top

at_top : (shapes : ℕ → List Shape) (all : List ImageField) → Inside shapes (form_in shapes (map shape_of all)) [] 0 all
at_top shapes all i j e rest =
    ap (λ (m : ℕ). form_below shapes rest (form_at (map shape_of all) m)) (let s : i ≡ j = omega (arith, e) in s)

abbrev pub shapes_of : Image → ℕ → List Shape
shapes_of image c = map shape_of (class_fields image c)

pub initial_kept : (image : Image) → Agrees image → (class : ℕ) (c : ImageClass)
    → slice_get image.classes class ≡ Some c
    → all_kept (form_in (shapes_of image) (shapes_of image class)) (initial image class) ≡ true
initial_kept image is class c at =
    let a : ClassAgrees image class c = class_agrees image is class c at in
    let fits : rule.object_fits (suc (length image.classes)) image class c.contents ≡ true =
    ap (λ (all : List ImageField). list_all (rule.field_fits (rule.object_fits
    (length image.classes) image) c.contents) all)
    (fields_at image class c at) ∙ a.fields.fit in
    let inside : Inside (shapes_of image) (form_in (shapes_of image) (shapes_of image class)) [] 0 c.fields =
    subst (λ (all : List ImageField). Inside (shapes_of image)
    (form_in (shapes_of image) (shapes_of image class)) [] 0 all)
    (fields_at image class c at) (at_top (shapes_of image) (class_fields image class)) in
    let same : length c.contents ≤ length c.contents = omega arith in
    ap (λ (o : Option ImageClass). all_kept (form_in (shapes_of image) (shapes_of image class))
    (object_held image (length image.classes) class [] (option_map_or (λ (d : ImageClass). d.contents) o [])))
    at
    ∙ objects_kept image is (form_in (shapes_of image) (shapes_of image class)) (length image.classes) class c at []
    c.contents a.bytes same (fits_less image (length image.classes) class c.contents fits) inside

pub statics_kept : (image : Image) → Agrees image
    → all_kept (form_in (shapes_of image) (map shape_of image.static_fields)) (initial_statics image) ≡ true
statics_kept image is =
    let a : StaticsAgree image = statics_agree image is in
    let same : length image.static_bytes ≤ length image.static_bytes = omega arith in
    fields_kept image is (form_in (shapes_of image) (map shape_of image.static_fields)) (length image.classes)
    (objects_kept image is (form_in (shapes_of image) (map shape_of image.static_fields)) (length image.classes)) []
    image.static_bytes (length image.static_bytes) 0 image.static_fields
    (fields_are image (length image.static_bytes) image.static_fields image.static_bytes a.fields) same a.bytes
    a.fields.fit
    (at_top (shapes_of image) image.static_fields)

-- ---- a field that keeps a value of its own has one

one_has : (path : Path) (v : Value) → has ((path, v) ∷ []) path ≡ true
one_has path v = ap (λ (b : Bool). b || false) ((bytes_eq-Decides path path).1 refl)

has_front : (a b : Contents) (path : Path) → has a path ≡ true → has (a ++ b) path ≡ true
has_front [] b path h = no_truth h
has_front (e ∷ es) b path h = by_test (bytes_eq e.0 path) (has_front es b path) h
  where
    by_test : (x : Bool) → (has es path ≡ true → has (es ++ b) path ≡ true) → (x || has es path) ≡ true
        → (x || has (es ++ b) path) ≡ true
    by_test true later h = refl
    by_test false later h = later h

has_back : (a b : Contents) (path : Path) → has b path ≡ true → has (a ++ b) path ≡ true
has_back [] b path h = h
has_back (e ∷ es) b path h = by_test (bytes_eq e.0 path) (has_back es b path h)
  where
    by_test : (x : Bool) → has (es ++ b) path ≡ true → (x || has (es ++ b) path) ≡ true
    by_test true h = refl
    by_test false h = h

begun_has : (object : ℕ → Path → List ℕ → Contents) (path : Path) (f : FieldForm) (bytes : List ℕ) (offset : ℕ)
    → IsLeaf f
    → has (field_held object path f bytes offset) path ≡ true
begun_has object path (form.Prim p) bytes offset leaf = one_has path (primitive_at p bytes offset)
begun_has object path (form.Str n) bytes offset leaf = one_has path (kept.Buf (bytes_at bytes offset n))
begun_has object path (form.Buf n) bytes offset leaf = one_has path (buf_at bytes offset)
begun_has object path (form.Array p n) bytes offset leaf = absurd leaf
begun_has object path (form.Object t) bytes offset leaf = absurd leaf

begun_all : (ℕ → Path → List ℕ → Contents) → List ℕ → ℕ → List ImageField → Contents
begun_all object bytes k all =
    flat_map (λ (at : ℕ × ImageField). field_held object ([] ++ at.0 ∷ []) (form_of at.1) bytes at.1.offset)
    (enumerate_from k all)

fields_have : (object : ℕ → Path → List ℕ → Contents) (bytes : List ℕ) (k i : ℕ) (all : List ImageField)
    (f : ImageField)
    → slice_get all i ≡ Some f → IsLeaf (form_of f) → has (begun_all object bytes k all) ((k + i) ∷ []) ≡ true
unfolding begun_all
fields_have object bytes k i [] f e leaf = no_value f e
fields_have object bytes k zero (g ∷ gs) f e leaf =
    let same : g ≡ f = cc in
    let first : k ≡ k + 0 = omega arith in
    has_front (field_held object (k ∷ []) (form_of g) bytes g.offset) (begun_all object bytes (k + 1) gs)
    ((k + 0) ∷ [])
    (subst (λ (n : ℕ). has (field_held object (k ∷ []) (form_of g) bytes g.offset) (n ∷ []) ≡ true) first
    (begun_has object (k ∷ []) (form_of g) bytes g.offset (subst (λ (h : ImageField). IsLeaf (form_of h))
    (sym same) leaf)))
fields_have object bytes k (suc i) (g ∷ gs) f e leaf =
    let next : k + 1 + i ≡ k + suc i = omega arith in
    has_back (field_held object (k ∷ []) (form_of g) bytes g.offset) (begun_all object bytes (k + 1) gs)
    ((k + suc i) ∷ [])
    (subst (λ (n : ℕ). has (begun_all object bytes (k + 1) gs) (n ∷ []) ≡ true) next
    (fields_have object bytes (k + 1) i gs f e leaf))

pub initial_has : (image : Image) (class i : ℕ) (c : ImageClass) (f : ImageField)
    → slice_get image.classes class ≡ Some c
    → class < length image.classes → slice_get c.fields i ≡ Some f → IsLeaf (form_of f)
    → has (initial image class) (i ∷ []) ≡ true
unfolding begun_all
initial_has image class i c f at known there leaf =
    ap (λ (o : Option ImageClass). has
    (object_held image (length image.classes) class [] (option_map_or (λ (d : ImageClass). d.contents) o [])) (i ∷ []))
    at
    ∙ by_depth (length image.classes) known
  where
    by_depth : (n : ℕ) → class < n → has (object_held image n class [] c.contents) (i ∷ []) ≡ true
    by_depth zero low = absurd (omega (arith, low))
    by_depth (suc n) low =
        let same : 0 + i ≡ i = omega arith in
        ap (λ (all : List ImageField). has (fields_held (object_held image n) [] all c.contents) (i ∷ []))
        (fields_at image class c at)
        ∙ subst (λ (k : ℕ). has (begun_all (object_held image n) c.contents 0 c.fields) (k ∷ []) ≡ true) same
        (fields_have (object_held image n) c.contents 0 i c.fields f there leaf)
