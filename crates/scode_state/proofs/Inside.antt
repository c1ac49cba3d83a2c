-- What stands in an object, and of which class it is, by the parts at paths.
use Rattle.std.proofs.Common.{◌≡◌, ◌≢◌, ◌+◌, ◌*◌, ◌==◌, ◌&&◌, ◌<◌, ℕ, Bool, true, false, if◌then◌else◌, nat_lt, List, [], ◌∷◌, ◌++◌, length, Option, Some, None, refl, sym, ap, subst, ◌∙◌, arith}
use Rattle.std.specs.Prelude.{position, slice_get}
use Rattle.std.specs.Option.{option_and_then, option_map}
use Rattle.std.proofs.lemmas.Bool.{and_parts, eqb-true, lt-ltb}
use Rattle.sed_value.specs.declared.slot_type.Primitive.{Primitive}
use Rattle.sed_value.specs.SlotType.{width_of}
use Rattle.sed_typed.specs.declared.number.TypeNo.{TypeNo}
use Rattle.sed_typed.specs.declared.program.FieldForm.{FieldForm}
use Rattle.sed_typed.specs.declared.program.FieldForm.TheVariants as form
use Rattle.sed_typed.specs.Contents.{Path}
use Rattle.sed_typed.specs.Objects.{class_in, form_class, object_in}
use Rattle.sed_engine.specs.Values.{Base, Component, Statics, Spot}
use Rattle.sed_engine.proofs.Below.{IsPassed, position_passes}
use Rattle.scode_image.specs.declared.image.Image.{Image}
use Rattle.scode_image.specs.declared.image.ImageField.{ImageField}
use Rattle.scode_code.specs.Fields.{Setting, buf_number, class_of, fields_at, fields_from}
use Rattle.scode_code.specs.Parts.{Part, field_part, part_from, part_in, part_of}
use Rattle.scode_code.specs.Tables.{class_fields, field_number, form_of, is_field}
use Rattle.scode_code.proofs.Parts.{same_field}
use Rattle.scode_whole.proofs.Truths.{no_truth, no_value, same_value, through}
use Rattle.scode_state.proofs.Apart.{element_of, field_part_of}

abbrev is_prim : FieldForm → Bool
is_prim (form.Prim p) = true
is_prim (form.Str n) = false
is_prim (form.Buf n) = false
is_prim (form.Array p n) = false
is_prim (form.Object t) = false

abbrev is_array : FieldForm → Bool
is_array (form.Array p n) = true
is_array (form.Prim p) = false
is_array (form.Str n) = false
is_array (form.Buf n) = false
is_array (form.Object t) = false

is_element : (at n j : ℕ) (p : Primitive) → j < n
    → (if nat_lt j n then Some (let b : Part = (at + j * width_of p, form.Prim p) in b) else None)
    ≡ Some (at + j * width_of p, form.Prim p)
is_element at n j p within =
    ap (λ (b : Bool). if b then Some (let x : Part = (at + j * width_of p, form.Prim p) in x) else None)
    (lt-ltb j n within)

module _ (image : Image) where
  -- the class of an object inside what is of a form
  class_from : (path : Path) (g : FieldForm) (o at : ℕ) (t : TypeNo)
      → part_from image path (o, g) ≡ Some (at, form.Object t)
      → object_in form_of (class_fields image) path (form_class g) ≡ Some t.0
  class_from [] g o at t e =
      let same : g ≡ form.Object t =
      ap (λ (p : Part). p.1) (same_value (let a : Part = (o, g) in a) (let b : Part = (at, form.Object t) in b) e) in
      ap (λ (x : FieldForm). object_in form_of (class_fields image) [] (form_class x)) same
  class_from (i ∷ path) (form.Prim p) o at t e = no_value (let b : Part = (at, form.Object t) in b) e
  class_from (i ∷ path) (form.Str n) o at t e = no_value (let b : Part = (at, form.Object t) in b) e
  class_from (i ∷ path) (form.Buf n) o at t e = no_value (let b : Part = (at, form.Object t) in b) e
  class_from (i ∷ path) (form.Array p n) o at t e =
      let mid = through (part_from image path) (part_in image (o, form.Array p n) i)
      (let b : Part = (at, form.Object t) in b) e in
      let el = element_of o p n i mid.0 mid.1 in
      element path (subst (λ (x : Part). part_from image path x ≡ Some (let b : Part = (at, form.Object t) in b)) (sym el.is) mid.2)
    where
      element : (rest : Path)
          → part_from image rest (o + i * width_of p, form.Prim p) ≡ Some (let b : Part = (at, form.Object t) in b)
          → object_in form_of (class_fields image) (i ∷ rest) None ≡ Some t.0
      element [] e =
          no_truth (sym (ap (λ (b : Part). is_prim b.1)
          (same_value (let a : Part = (o + i * width_of p, form.Prim p) in a)
          (let b : Part = (at, form.Object t) in b) e)))
      element (j ∷ rest) e = no_value (let b : Part = (at, form.Object t) in b) e
  class_from (i ∷ path) (form.Object k) o at t e =
      let mid = through (part_from image path) (part_in image (o, form.Object k) i)
      (let b : Part = (at, form.Object t) in b) e in
      let f = field_part_of o (class_fields image k.0) i mid.0 mid.1 in
      ap (λ (x : Option ImageField). object_in form_of (class_fields image) path (class_in form_of x)) f.stands
      ∙ class_from path (form_of f.field) (o + f.field.offset) at t
      (subst (λ (x : Part). part_from image path x ≡ Some (let b : Part = (at, form.Object t) in b)) (sym f.is) mid.2)

  -- a path on from a path
  further : (path : Path) (i : ℕ) (outer inner : Part) → part_from image path outer ≡ Some inner
      → part_from image (path ++ i ∷ []) outer ≡ part_in image inner i
  further [] i outer inner e =
      ap (λ (p : Part). option_and_then (part_from image []) (part_in image p i)) (same_value outer inner e)
      ∙ none (part_in image inner i)
    where
      none : (o : Option Part) → option_and_then (part_from image []) o ≡ o
      none None = refl
      none (Some p) = refl
  further (j ∷ path) i outer inner e =
      let mid = through (part_from image path) (part_in image outer j) inner e in
      ap (λ (o : Option Part). option_and_then (part_from image (path ++ i ∷ [])) o) mid.1
      ∙ further path i mid.0 inner mid.2

pub class_said : (image : Image) (class : ℕ) (base : Base) (path : Path) (at : ℕ) (t : TypeNo)
    → part_of image class base path ≡ Some (at, form.Object t) → (base ≡ Statics → path ≢ [])
    → class_of (record { image = image; class = class }) (record { base = base; path = path }) ≡ Some t.0
class_said image class Component path at t e inner =
    class_from image path (form.Object (record { 0 = class })) 0 at t e
class_said image class Statics [] at t e inner = absurd (inner refl refl)
class_said image class Statics (i ∷ path) at t e inner =
    let mid = through (part_from image path) (option_map (field_part 0) (slice_get image.static_fields i))
    (let b : Part = (at, form.Object t) in b) e in
    let f = field_part_of 0 image.static_fields i mid.0 mid.1 in
    ap (λ (x : Option ImageField). object_in form_of (class_fields image) path (class_in form_of x)) f.stands
    ∙ class_from image path (form_of f.field) (0 + f.field.offset) at t
    (subst (λ (x : Part). part_from image path x ≡ Some (let b : Part = (at, form.Object t) in b)) (sym f.is) mid.2)

-- ---- a field, and an element

-- the field that a test finds among those of an object
pub record FieldStands (w : Setting) (spot : Spot) (at i : ℕ) (test : ImageField → Bool) : Type 0 where
  pub field : ImageField
  pub passes : test field ≡ true
  pub part : part_of w.image w.class spot.base (spot.path ++ i ∷ []) ≡ Some (field_part at field)

-- among these fields, which are those of the object at a path
among : (w : Setting) (spot : Spot) (at i : ℕ) (test : ImageField → Bool) (fields : List ImageField)
    → part_of w.image w.class spot.base (spot.path ++ i ∷ []) ≡ option_map (field_part at) (slice_get fields i)
    → position test fields ≡ Some i → FieldStands w spot at i test
among w spot at i test fields is found =
    let p : IsPassed test fields i = position_passes test fields i found in
    record { field = p.value; passes = p.passes; part = is ∙ ap (option_map (field_part at)) p.is }

abbrev spot_at : Base → Path → Spot
spot_at base path = record { base = base; path = path }

not_statics : Component ≡ Statics → ⊥
not_statics e = cc

field_in : (w : Setting) (base : Base) (path : Path) (at i : ℕ) (t : TypeNo) (test : ImageField → Bool)
    → part_of w.image w.class base path ≡ Some (at, form.Object t)
    → position test (fields_at w (spot_at base path)) ≡ Some i → FieldStands w (spot_at base path) at i test
field_in w Component path at i t test e found =
    among w (spot_at Component path) at i test (class_fields w.image t.0)
    (further w.image path i (0, form.Object (record { 0 = w.class })) (at, form.Object t) e)
    (sym (ap (λ (c : Option ℕ). position test (fields_from w Component path c))
    (class_said w.image w.class Component path at t e (λ is. absurd (not_statics is)))) ∙ found)
field_in w Statics [] at i t test e found =
    among w (spot_at Statics []) at i test w.image.static_fields
    (whole (slice_get w.image.static_fields i)
    (ap (λ (p : Part). p.0) (same_value (let a : Part = (0, form.Object (record { 0 = 0xffff })) in a)
    (let b : Part = (at, form.Object t) in b) e)))
    found
  where
    whole : (o : Option ImageField) → 0 ≡ at
        → option_and_then (part_from w.image []) (option_map (field_part 0) o) ≡ option_map (field_part at) o
    whole None is = refl
    whole (Some f) is = ap (λ (n : ℕ). Some (field_part n f)) is
field_in w Statics (j ∷ path) at i t test e found =
    let mid = through (part_from w.image path) (option_map (field_part 0) (slice_get w.image.static_fields j))
    (let b : Part = (at, form.Object t) in b) e in
    among w (spot_at Statics (j ∷ path)) at i test (class_fields w.image t.0)
    (ap (λ (o : Option Part). option_and_then (part_from w.image (path ++ i ∷ [])) o) mid.1
    ∙ further w.image path i mid.0 (at, form.Object t) mid.2)
    (sym (ap (λ (c : Option ℕ). position test (fields_from w Statics (j ∷ path) c))
    (class_said w.image w.class Statics (j ∷ path) at t e (λ is none. not_empty none))) ∙ found)
  where
    not_empty : j ∷ path ≡ [] → ⊥
    not_empty e = cc

pub field_found : (w : Setting) (spot : Spot) (at i : ℕ) (t : TypeNo) (test : ImageField → Bool)
    → part_of w.image w.class spot.base spot.path ≡ Some (at, form.Object t)
    → position test (fields_at w spot) ≡ Some i → FieldStands w spot at i test
field_found w spot at i t test e found = field_in w spot.base spot.path at i t test e found

pub field_stands : (w : Setting) (spot : Spot) (at i : ℕ) (t : TypeNo) (to : ImageField)
    → part_of w.image w.class spot.base spot.path ≡ Some (at, form.Object t)
    → field_number (fields_at w spot) to.form to.offset to.n ≡ Some i
    → part_of w.image w.class spot.base (spot.path ++ i ∷ []) ≡ Some (at + to.offset, form_of to)
field_stands w spot at i t to e found =
    let f = field_found w spot at i t (is_field to.form to.offset to.n) e found in
    f.part ∙ ap (λ (x : ImageField). Some (field_part at x)) (same_field to f.field f.passes)

-- a Buf, whatever it has room for
pub buf_stands : (w : Setting) (spot : Spot) (at i : ℕ) (t : TypeNo) (offset : ℕ)
    → part_of w.image w.class spot.base spot.path ≡ Some (at, form.Object t)
    → buf_number (fields_at w spot) offset ≡ Some i
    → (n : ℕ) × (part_of w.image w.class spot.base (spot.path ++ i ∷ []) ≡ Some (at + offset, form.Buf n))
buf_stands w spot at i t offset e found =
    let test : ImageField → Bool = λ f. (f.form == 7) && (f.offset == offset) in
    let f = field_found w spot at i t test e found in
    let p = and_parts (f.field.form == 7) (f.field.offset == offset) f.passes in
    let is : form_of f.field ≡ form.Buf f.field.n =
    ap (λ (k : ℕ). let x : ImageField = record { offset = f.field.offset; form = k; n = f.field.n } in form_of x)
    (eqb-true f.field.form 7 p.0) in (
      f.field.n,
      f.part ∙ ap (λ (x : FieldForm). let b : Option Part = Some (at + f.field.offset, x) in b) is
          ∙ ap (λ (k : ℕ). let b : Option Part = Some (at + k, form.Buf f.field.n) in b)
          (eqb-true f.field.offset offset p.1),
    )

-- an element
pub element_stands : (image : Image) (class : ℕ) (base : Base) (path : Path) (at n j : ℕ) (p : Primitive)
    → part_of image class base path ≡ Some (at, form.Array p n) → j < n
    → part_of image class base (path ++ j ∷ []) ≡ Some (at + j * width_of p, form.Prim p)
element_stands image class Component path at n j p e within =
    further image path j (0, form.Object (record { 0 = class })) (at, form.Array p n) e ∙ is_element at n j p within
element_stands image class Statics [] at n j p e within =
    no_truth (ap (λ (x : Part). is_array x.1) (same_value (let a : Part = (0, form.Object (record { 0 = 0xffff })) in a)
    (let b : Part = (at, form.Array p n) in b) e))
element_stands image class Statics (i ∷ path) at n j p e within =
    let mid = through (part_from image path) (option_map (field_part 0) (slice_get image.static_fields i))
    (let b : Part = (at, form.Array p n) in b) e in
    ap (λ (o : Option Part). option_and_then (part_from image (path ++ j ∷ [])) o) mid.1
    ∙ further image path j mid.0 (at, form.Array p n) mid.2 ∙ is_element at n j p within
