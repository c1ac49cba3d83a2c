-- The first bytes of each class and of the statics have each Buf within its room.
use Rattle.std.proofs.Common.{◌≡◌, ◌<◌, ◌≤◌, ◌+◌, ◌-◌, ◌*◌, ◌==◌, nat_le, ℕ, zero, suc, Bool, true, false, if◌then◌else◌, List, [], ◌∷◌, length, take, drop, Option, Some, None, refl, sym, ap, subst, ◌∙◌, arith}
use Rattle.std.specs.Prelude.{slice_get}
use Rattle.std.specs.List.{list_all}
use Rattle.std.specs.Option.{option_and_then, option_map, option_map_or}
use Rattle.std.proofs.lemmas.Bool.{leb-true}
use Rattle.std.proofs.lemmas.List.{drop-drop}
use Rattle.sed_value.specs.SlotType.{width_of}
use Rattle.sed_typed.specs.declared.program.FieldForm.{FieldForm}
use Rattle.sed_typed.specs.declared.program.FieldForm.TheVariants as form
use Rattle.sed_typed.specs.Contents.{Path}
use Rattle.sed_wire.specs.Number.{number_of}
use Rattle.sed_engine.specs.Values.{Base, Component, Statics}
use Rattle.scode_image.specs.declared.image.Image.{Image}
use Rattle.scode_image.specs.declared.image.ImageClass.{ImageClass}
use Rattle.scode_image.specs.declared.image.ImageField.{ImageField}
use Rattle.scode_code.specs.Contents.{bytes_at, class_bytes}
use Rattle.scode_code.specs.Parts.{Part, field_part, part_from, part_in, part_of}
use Rattle.scode_code.specs.TableRules as rule
use Rattle.scode_code.specs.Tables.{class_fields, form_of}
use Rattle.scode_whole.proofs.Rule.{Agrees, class_agrees, statics_agree}
use Rattle.scode_whole.proofs.Truths.{no_truth, no_value, passes, same_value, through}
use Rattle.scode_state.specs.Values.{BufsFit}
use Rattle.scode_whole.proofs.Bases.{fields_at}
use Rattle.scode_state.proofs.Rows.{Row, class_rule, form_by, static_row}
use Rattle.scode_state.proofs.Apart.{element_of, field_part_of}
use Rattle.scode_whole.proofs.Nesting.{Nested, all_nested}
use Rattle.scode_state.proofs.Paths.{Inner, inner_of, no_fields}

-- what the rule says of a part at an offset, where what it says of objects is known
abbrev Fits : (ℕ → List ℕ → Bool) → List ℕ → ℕ → FieldForm → Type 0
Fits object bytes o (form.Buf n) = number_of (bytes_at bytes o 2) ≤ n
Fits object bytes o (form.Object t) = object t.0 (drop o bytes) ≡ true
Fits object bytes o (form.Prim p) = Unit {0}
Fits object bytes o (form.Str n) = Unit {0}
Fits object bytes o (form.Array p n) = Unit {0}

field_fits : (object : ℕ → List ℕ → Bool) (bytes : List ℕ) (f : ImageField) → rule.field_fits object bytes f ≡ true
    → Fits object bytes f.offset (form_of f)
field_fits object bytes f h = by_number (nat_le f.form 5) (f.form == 6) (f.form == 7) (f.form == 8) h
  where
    by_number : (a b c d : Bool)
        → (if a then rule.primitive_fits f.form bytes f.offset else if b then rule.str_fits f.n bytes f.offset
        else if c then rule.buf_fits f.n bytes f.offset else if d then object f.n (drop f.offset bytes)
        else rule.array_fits (f.form - 8) f.n bytes f.offset) ≡ true
        → Fits object bytes f.offset (form_by a b c d f)
    by_number true b c d h = tt
    by_number false true c d h = tt
    by_number false false true d h = leb-true (number_of (bytes_at bytes f.offset 2)) f.n h
    by_number false false false true h = h
    by_number false false false false h = tt

-- the bytes behind an offset, as those from it on
behind : (object : ℕ → List ℕ → Bool) (bytes : List ℕ) (o x : ℕ) (g : FieldForm) → Fits object (drop o bytes) x g
    → Fits object bytes (o + x) g
behind object bytes o x (form.Buf n) h =
    subst (λ (b : List ℕ). number_of b ≤ n) (ap (take 2) (drop-drop x o bytes)) h
behind object bytes o x (form.Object t) h =
    subst (λ (b : List ℕ). object t.0 b ≡ true) (drop-drop x o bytes) h
behind object bytes o x (form.Prim p) h = tt
behind object bytes o x (form.Str n) h = tt
behind object bytes o x (form.Array p n) h = tt

module _ (image : Image) (bytes : List ℕ) where
  abbrev PartFits : ℕ → Part → Type 0
  PartFits d part = Fits (rule.object_fits d image) bytes part.0 part.1

  -- what fits of a part fits of each part in it
  part_fits : (path : Path) (d : ℕ) (outer : Part) (o n : ℕ) → Inner image d outer.1 → PartFits d outer
      → part_from image path outer ≡ Some (o, form.Buf n) → number_of (bytes_at bytes o 2) ≤ n
  part_fits [] d outer o n deep h e =
      subst (PartFits d) (same_value outer (let b : Part = (o, form.Buf n) in b) e) h
  part_fits (i ∷ path) d (at, form.Prim p) o n deep h e = no_value (let b : Part = (o, form.Buf n) in b) e
  part_fits (i ∷ path) d (at, form.Str m) o n deep h e = no_value (let b : Part = (o, form.Buf n) in b) e
  part_fits (i ∷ path) d (at, form.Buf m) o n deep h e = no_value (let b : Part = (o, form.Buf n) in b) e
  part_fits (i ∷ path) d (at, form.Array p m) o n deep h e =
      let mid = through (part_from image path) (part_in image (at, form.Array p m) i)
      (let b : Part = (o, form.Buf n) in b) e in
      let el = element_of at p m i mid.0 mid.1 in
      part_fits path d (at + i * width_of p, form.Prim p) o n tt tt
      (subst (λ (x : Part). part_from image path x ≡ Some (let b : Part = (o, form.Buf n) in b)) (sym el.is) mid.2)
  part_fits (i ∷ path) zero (at, form.Object t) o n deep h e = absurd deep
  part_fits (i ∷ path) (suc d) (at, form.Object t) o n deep h e =
      let mid = through (part_from image path) (part_in image (at, form.Object t) i)
      (let b : Part = (o, form.Buf n) in b) e in
      let f = field_part_of at (class_fields image t.0) i mid.0 mid.1 in
      let own : rule.field_fits (rule.object_fits d image) (drop at bytes) f.field ≡ true =
      passes (rule.field_fits (rule.object_fits d image) (drop at bytes)) (class_fields image t.0) i f.field h f.stands in
      part_fits path d (at + f.field.offset, form_of f.field) o n
      (inner_of image d f.field
      (λ object. deep f.field.n (record { place = i; field = f.field; stands = f.stands; object = object; is = refl })))
      (behind (rule.object_fits d image) bytes at f.field.offset (form_of f.field)
      (field_fits (rule.object_fits d image) (drop at bytes) f.field own))
      (subst (λ (x : Part). part_from image path x ≡ Some (let b : Part = (o, form.Buf n) in b)) (sym f.is) mid.2)

  fields_fit : Agrees image → (size : ℕ) (fields : List ImageField) → Row image size fields
      → rule.bytes_fit image fields bytes ≡ true → (i : ℕ) (path : Path) (o n : ℕ)
      → option_and_then (part_from image path) (option_map (field_part 0) (slice_get fields i)) ≡ Some (o, form.Buf n)
      → number_of (bytes_at bytes o 2) ≤ n
  fields_fit agree size fields row h i path o n e =
      let mid = through (part_from image path) (option_map (field_part 0) (slice_get fields i))
      (let b : Part = (o, form.Buf n) in b) e in
      let f = field_part_of 0 fields i mid.0 mid.1 in
      let own : rule.field_fits (rule.object_fits (length image.classes) image) bytes f.field ≡ true =
      passes (rule.field_fits (rule.object_fits (length image.classes) image) bytes) fields i f.field h f.stands in
      part_fits path (length image.classes) (0 + f.field.offset, form_of f.field) o n
      (inner_of image (length image.classes) f.field
      (λ object. all_nested image agree f.field.n (row.known i f.field f.stands object)))
      (behind (rule.object_fits (length image.classes) image) bytes 0 f.field.offset (form_of f.field)
      (field_fits (rule.object_fits (length image.classes) image) bytes f.field own))
      (subst (λ (x : Part). part_from image path x ≡ Some (let b : Part = (o, form.Buf n) in b)) (sym f.is) mid.2)

not_buf : {P : Type 0} (class o n : ℕ)
    → ◌≡◌ {A = Option Part} (Some (0, form.Object (record { 0 = class }))) (Some (o, form.Buf n)) → P
not_buf class o n e =
    no_truth (sym (ap (λ (p : Option Part). is_object p) e))
  where
    is_object : Option Part → Bool
    is_object None = false
    is_object (Some (o, form.Object t)) = true
    is_object (Some (o, form.Prim p)) = false
    is_object (Some (o, form.Str n)) = false
    is_object (Some (o, form.Buf n)) = false
    is_object (Some (o, form.Array p n)) = false

pub first_class : (image : Image) → Agrees image → (class : ℕ) → BufsFit image class Component (class_bytes image class)
first_class image agree class [] o n e = not_buf class o n e
first_class image agree class (i ∷ path) o n e = by_class (slice_get image.classes class) refl
  where
    by_class : (c : Option ImageClass) → slice_get image.classes class ≡ c
        → number_of (bytes_at (class_bytes image class) o 2) ≤ n
    by_class None at =
        no_value (let b : Part = (o, form.Buf n) in b)
        (sym (ap (λ (all : List ImageField). option_and_then (part_from image path)
        (option_map (field_part 0) (slice_get all i))) (no_fields image class at)) ∙ e)
    by_class (Some c) at =
        subst (λ (b : List ℕ). number_of (bytes_at b o 2) ≤ n)
        (sym (ap (λ (x : Option ImageClass). option_map_or (λ (d : ImageClass). d.contents) x []) at))
        (fields_fit image c.contents agree (length c.contents) c.fields (class_rule image agree class c at)
        (class_agrees image agree class c at).fields.fit i path o n
        (sym (ap (λ (all : List ImageField). option_and_then (part_from image path)
        (option_map (field_part 0) (slice_get all i))) (fields_at image class c at)) ∙ e))

pub first_statics : (image : Image) → Agrees image → (class : ℕ) → BufsFit image class Statics image.static_bytes
first_statics image agree class [] o n e = not_buf 0xffff o n e
first_statics image agree class (i ∷ path) o n e =
    fields_fit image image.static_bytes agree (length image.static_bytes) image.static_fields (static_row image agree)
    (statics_agree image agree).fields.fit i path o n e
