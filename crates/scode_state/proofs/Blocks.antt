-- Parts of a whole block: they lie within it, and each has one path.
use Rattle.std.proofs.Common.{◌≡◌, ◌≢◌, ◌<◌, ◌≤◌, ◌+◌, ◌^◌, ◌==◌, ◌⊎◌, inl, inr, nat_le, ℕ, zero, suc, Bool, true, false, List, [], ◌∷◌, length, Option, Some, None, refl, sym, ap, subst, ◌∙◌, arith}
use Rattle.std.specs.Prelude.{slice_get}
use Rattle.std.specs.Option.{option_and_then, option_map, option_map_or}
use Rattle.std.specs.List.{list_all, range_with_len}
use Rattle.std.proofs.lemmas.Bool.{and_parts, cases_eq, leb-true}
use Rattle.std.proofs.lemmas.Option.{slice_get_within}
use Rattle.sed_typed.specs.declared.number.TypeNo.{TypeNo}
use Rattle.sed_typed.specs.declared.program.FieldForm.{FieldForm}
use Rattle.sed_typed.specs.declared.program.FieldForm.TheVariants as form
use Rattle.sed_typed.specs.Contents.{Path}
use Rattle.sed_engine.specs.Values.{Base, Component, Statics}
use Rattle.scode_image.specs.declared.image.Image.{Image}
use Rattle.scode_image.specs.declared.image.ImageClass.{ImageClass}
use Rattle.scode_image.specs.declared.image.ImageField.{ImageField}
use Rattle.scode_code.specs.Contents.{data_size}
use Rattle.scode_code.specs.Parts.{Part, field_part, part_from, part_in, part_of}
use Rattle.scode_code.specs.TableRules as rule
use Rattle.scode_code.specs.Tables.{class_fields, form_of}
use Rattle.scode_whole.proofs.Kits.{classes_most}
use Rattle.scode_whole.proofs.Rule.{Agrees, class_agrees}
use Rattle.scode_whole.proofs.Truths.{no_truth, no_value, same_value, seven, through}
use Rattle.scode_state.specs.Values.{part_width, size_in}
use Rattle.scode_state.proofs.Rows.{Row, class_row, form_by, static_row}
use Rattle.scode_state.proofs.Apart.{FieldPart, LiesBetween, element_of, field_lies, field_part_of, fields_apart, inside_apart, path_lies}
use Rattle.scode_state.proofs.Paths.{not_apart, one_path, path_wide}

abbrev pub whole_statics : Part
whole_statics = (0, form.Object (record { 0 = 0xffff }))

-- ---- the static block is of no class

no_class : (image : Image) → Agrees image → slice_get image.classes 0xffff ≡ None
no_class image agree = by_class (slice_get image.classes 0xffff) refl
  where
    by_class : (o : Option ImageClass) → slice_get image.classes 0xffff ≡ o → slice_get image.classes 0xffff ≡ None
    by_class None e = e
    by_class (Some c) e =
        let within = slice_get_within image.classes 0xffff c e in
        let few = classes_most image agree in
        absurd (omega (arith, within, few))

no_data : (image : Image) → Agrees image → data_size image 0xffff ≡ 0
no_data image agree = ap (λ (o : Option ImageClass). length (option_map_or (λ (c : ImageClass). c.contents) o [])) (no_class image agree)

-- objects in fields are of classes that are there
abbrev OfClass : Image → FieldForm → Type 0
OfClass image (form.Prim p) = Unit {0}
OfClass image (form.Str n) = Unit {0}
OfClass image (form.Buf n) = Unit {0}
OfClass image (form.Array p n) = Unit {0}
OfClass image (form.Object t) = t.0 < length image.classes

of_class : (image : Image) (f : ImageField) → ((f.form == 8) ≡ true → f.n < length image.classes)
    → OfClass image (form_of f)
of_class image f object = by_number (nat_le f.form 5) (f.form == 6) (f.form == 7) (f.form == 8) object
  where
    by_number : (a b c d : Bool) → (d ≡ true → f.n < length image.classes) → OfClass image (form_by a b c d f)
    by_number true b c d object = tt
    by_number false true c d object = tt
    by_number false false true d object = tt
    by_number false false false true object = object refl
    by_number false false false false object = tt

field_class : (image : Image) (size : ℕ) (fields : List ImageField) → Row image size fields → (o i : ℕ) (part : Part)
    → FieldPart o fields i part → OfClass image part.1
field_class image size fields row o i part f =
    subst (λ (b : Part). OfClass image b.1) f.is
    (of_class image f.field (λ object. row.known i f.field f.stands object))

module _ (image : Image) (agree : Agrees image) where
  step_class : (outer inner : Part) (i : ℕ) → part_in image outer i ≡ Some inner → OfClass image inner.1
  step_class (o, form.Prim p) inner i e = no_value inner e
  step_class (o, form.Str n) inner i e = no_value inner e
  step_class (o, form.Buf n) inner i e = no_value inner e
  step_class (o, form.Array p n) inner i e =
      subst (λ (b : Part). OfClass image b.1) (element_of o p n i inner e).is tt
  step_class (o, form.Object t) inner i e =
      field_class image (data_size image t.0) (class_fields image t.0) (class_row image agree t.0) o i inner
      (field_part_of o (class_fields image t.0) i inner e)

  path_class : (path : Path) (outer inner : Part) → OfClass image outer.1 → part_from image path outer ≡ Some inner
      → OfClass image inner.1
  path_class [] outer inner known e = subst (λ (b : Part). OfClass image b.1) (same_value outer inner e) known
  path_class (i ∷ path) outer inner known e =
      let mid = through (part_from image path) (part_in image outer i) inner e in
      path_class path mid.0 inner (step_class outer mid.0 i mid.1) mid.2

  static_class : (i : ℕ) (path : Path) (part : Part)
      → option_and_then (part_from image path) (option_map (field_part 0) (slice_get image.static_fields i)) ≡ Some part
      → OfClass image part.1
  static_class i path part e =
      let mid = through (part_from image path) (option_map (field_part 0) (slice_get image.static_fields i)) part e in
      path_class path mid.0 part
      (field_class image (length image.static_bytes) image.static_fields (static_row image agree) 0 i mid.0
      (field_part_of 0 image.static_fields i mid.0 mid.1)) mid.2

  -- so no part of the static block is the whole of it
  not_whole : (i : ℕ) (path : Path) (part : Part) → Some whole_statics ≡ Some part
      → option_and_then (part_from image path) (option_map (field_part 0) (slice_get image.static_fields i)) ≡ Some part
      → ⊥
  not_whole i path part is e =
      let low : 0xffff < length image.classes =
      subst (λ (b : Part). OfClass image b.1) (sym (same_value whole_statics part is)) (static_class i path part e) in
      let few = classes_most image agree in
      omega (arith, low, few)

  -- ---- one path

  pub block_path : (class : ℕ) (base : Base) (p q : Path) (part : Part) → part_of image class base p ≡ Some part
      → part_of image class base q ≡ Some part → p ≡ q
  block_path class Component p q part a b =
      one_path image agree p q (0, form.Object (record { 0 = class })) part a b
  block_path class Statics [] [] part a b = refl
  block_path class Statics [] (j ∷ q) part a b = absurd (not_whole j q part a b)
  block_path class Statics (i ∷ p) [] part a b = absurd (not_whole i p part b a)
  block_path class Statics (i ∷ p) (j ∷ q) part a b =
      let one = through (part_from image p) (option_map (field_part 0) (slice_get image.static_fields i)) part a in
      let other = through (part_from image q) (option_map (field_part 0) (slice_get image.static_fields j)) part b in
      by_number one.0 one.1 one.2 other.0 other.1 other.2 (cases_eq i j)
    where
      row : Row image (length image.static_bytes) image.static_fields
      row = static_row image agree

      by_number : (c : Part) → option_map (field_part 0) (slice_get image.static_fields i) ≡ Some c
          → part_from image p c ≡ Some part → (d : Part)
          → option_map (field_part 0) (slice_get image.static_fields j) ≡ Some d → part_from image q d ≡ Some part
          → (i ≡ j) ⊎ (i ≢ j) → ◌≡◌ {A = Path} (i ∷ p) (j ∷ q)
      by_number c ci pa d dj qb (inl e) =
          let same_part : c ≡ d = same_value c d (sym ci
          ∙ ap (λ (k : ℕ). option_map (field_part 0) (slice_get image.static_fields k)) e ∙ dj) in
          let rest : p ≡ q = one_path image agree p q c part pa
          (subst (λ (o : Part). part_from image q o ≡ Some part) (sym same_part) qb) in
          ap (λ (k : ℕ). let r : Path = k ∷ p in r) e ∙ ap (λ (r : Path). j ∷ r) rest
      by_number c ci pa d dj qb (inr ne) =
          let f = field_part_of 0 image.static_fields i c ci in
          let wide : 1 ≤ part_width image c.1 = subst (λ (b : Part). 1 ≤ part_width image b.1) f.is (row.wide i f.field f.stands) in
          not_apart image agree part (path_wide image agree p c part wide pa)
          (inside_apart image c d part part
          (fields_apart image (length image.static_bytes) image.static_fields row 0 i j c d f
          (field_part_of 0 image.static_fields j d dj) ne)
          (path_lies image agree p c part pa) (path_lies image agree q d part qb))

  -- ---- within

  pub block_lies : (class : ℕ) (base : Base) (path : Path) (part : Part) → part_of image class base path ≡ Some part
      → part.0 + part_width image part.1 ≤ size_in image class base
  block_lies class Component path part e =
      let low : part.0 + part_width image part.1 ≤ 0 + size_in image class Component =
      (path_lies image agree path (0, form.Object (record { 0 = class })) part e).ends in
      omega (arith, low)
  block_lies class Statics [] part e =
      subst (λ (b : Part). b.0 + part_width image b.1 ≤ length image.static_bytes) (same_value whole_statics part e)
      (let none : part_width image (form.Object (record { 0 = 0xffff })) ≡ 0 = no_data image agree in omega (arith, none))
  block_lies class Statics (i ∷ path) part e =
      let mid = through (part_from image path) (option_map (field_part 0) (slice_get image.static_fields i)) part e in
      let lies = field_lies image (length image.static_bytes) image.static_fields (static_row image agree) 0 i mid.0
      (field_part_of 0 image.static_fields i mid.0 mid.1) in
      let inner = path_lies image agree path mid.0 part mid.2 in
      let x = lies.ends in
      let y = inner.ends in
      omega (arith, x, y)

-- and a block has less than 65,536
pub sizes_reach : (image : Image) (agree : Agrees image) (class : ℕ) (base : Base) → size_in image class base < 2 ^ 16
sizes_reach image agree class Component = by_class (slice_get image.classes class) refl
  where
    by_class : (o : Option ImageClass) → slice_get image.classes class ≡ o → data_size image class < 2 ^ 16
    by_class None e =
        subst (λ (n : ℕ). n < 2 ^ 16)
        (sym (ap (λ (o : Option ImageClass). length (option_map_or (λ (c : ImageClass). c.contents) o [])) e))
        (omega arith)
    by_class (Some c) e =
        subst (λ (n : ℕ). n < 2 ^ 16)
        (sym (ap (λ (o : Option ImageClass). length (option_map_or (λ (x : ImageClass). x.contents) o [])) e))
        (let few = leb-true (length c.contents) 65535
        (front (class_agrees image agree class c e).limits) in omega (arith, few))
      where
        front : rule.class_keeps_limits image class c ≡ true → nat_le (length c.contents) 65535 ≡ true
        front h = (and_parts (nat_le (length c.contents) 65535) _
            (and_parts _ _ (and_parts _ _ (and_parts _ _ (and_parts _ _ h).0).0).0).0).0
sizes_reach image agree class Statics =
    let p = seven (nat_le (length image.kits) 16)
    (list_all (λ (kit : ℕ). nat_le (length (rule.numbers_in_kit image kit)) 64)
    (range_with_len 0 (length image.kits))) (nat_le (length image.texts) 4096)
    (nat_le (length image.static_bytes) 65535) (rule.all_classes image (rule.class_keeps_limits image))
    (list_all rule.method_keeps_limits image.methods) (nat_le (length image.methods) 65535) agree.limits in
    let few = leb-true (length image.static_bytes) 65535 p.3 in
    omega (arith, few)
