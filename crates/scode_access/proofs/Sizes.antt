-- How long Strs are, by the rules on tables: they have some bytes, and at most 255.
use Rattle.std.proofs.Common.{◌≡◌, ◌+◌, ◌*◌, ◌≤◌, ℕ, true, [], ◌∷◌, Some, sym, ap, subst}
use Rattle.std.specs.Prelude.{slice_get}
use Rattle.std.specs.Option.{option_map}
use Rattle.sed_value.specs.SlotType.{width_of}
use Rattle.sed_typed.specs.declared.program.FieldForm.{FieldForm}
use Rattle.sed_typed.specs.declared.program.FieldForm.TheVariants as form
use Rattle.sed_typed.specs.Contents.{Path}
use Rattle.sed_engine.specs.Values.{Base, Component, Statics}
use Rattle.scode_image.specs.declared.image.Image.{Image}
use Rattle.scode_image.specs.declared.image.ImageField.{ImageField}
use Rattle.scode_code.specs.Parts.{Part, field_part, part_from, part_in, part_of}
use Rattle.scode_code.specs.TableRules.{tables_agree}
use Rattle.scode_code.specs.Tables.{class_fields, form_of}
use Rattle.scode_whole.proofs.Rule.{agrees}
use Rattle.scode_whole.proofs.Truths.{no_value, same_value, through}
use Rattle.scode_sound.proofs.Rules.{IsGood, class_good, static_good, tables}
use Rattle.scode_state.specs.Values.{part_width}
use Rattle.scode_state.proofs.Apart.{element_of, field_part_of}
use Rattle.scode_state.proofs.Rows.{class_row, static_row}

abbrev IsSized : FieldForm → Type 0
IsSized (form.Prim p) = Unit {0}
IsSized (form.Str n) = (1 ≤ n) × (n ≤ 255)
IsSized (form.Buf n) = Unit {0}
IsSized (form.Array p n) = Unit {0}
IsSized (form.Object t) = Unit {0}

module _ (image : Image) (agree : tables_agree image ≡ true) where
  sized : (f : FieldForm) → 1 ≤ part_width image f → IsGood image f → IsSized f
  sized (form.Prim p) wide good = tt
  sized (form.Str n) wide good = (wide, good)
  sized (form.Buf n) wide good = tt
  sized (form.Array p n) wide good = tt
  sized (form.Object t) wide good = tt

  class_sized : (class i : ℕ) (f : ImageField) → slice_get (class_fields image class) i ≡ Some f → IsSized (form_of f)
  class_sized class i f e =
      sized (form_of f) ((class_row image (agrees image agree) class).wide i f e)
      (class_good image (tables image agree) class i f e)

  static_sized : (i : ℕ) (f : ImageField) → slice_get image.static_fields i ≡ Some f → IsSized (form_of f)
  static_sized i f e =
      sized (form_of f) ((static_row image (agrees image agree)).wide i f e)
      (static_good image (tables image agree) i f e)

  -- what stands in a part whose form is so
  sized_from : (path : Path) (g : FieldForm) (o at n : ℕ) → IsSized g → part_from image path (o, g) ≡ Some (at, form.Str n)
      → (1 ≤ n) × (n ≤ 255)
  sized_from [] g o at n own e =
      subst IsSized (ap (λ (p : Part). p.1) (same_value (let a : Part = (o, g) in a) (let b : Part = (at, form.Str n) in b) e))
      own
  sized_from (i ∷ path) (form.Prim p) o at n own e = no_value (let b : Part = (at, form.Str n) in b) e
  sized_from (i ∷ path) (form.Str m) o at n own e = no_value (let b : Part = (at, form.Str n) in b) e
  sized_from (i ∷ path) (form.Buf m) o at n own e = no_value (let b : Part = (at, form.Str n) in b) e
  sized_from (i ∷ path) (form.Array p m) o at n own e =
      let mid = through (part_from image path) (part_in image (o, form.Array p m) i)
      (let b : Part = (at, form.Str n) in b) e in
      let el = element_of o p m i mid.0 mid.1 in
      sized_from path (form.Prim p) (o + i * width_of p) at n tt
      (subst (λ (x : Part). part_from image path x ≡ Some (let b : Part = (at, form.Str n) in b)) (sym el.is) mid.2)
  sized_from (i ∷ path) (form.Object k) o at n own e =
      let mid = through (part_from image path) (part_in image (o, form.Object k) i)
      (let b : Part = (at, form.Str n) in b) e in
      let f = field_part_of o (class_fields image k.0) i mid.0 mid.1 in
      sized_from path (form_of f.field) (o + f.field.offset) at n (class_sized k.0 i f.field f.stands)
      (subst (λ (x : Part). part_from image path x ≡ Some (let b : Part = (at, form.Str n) in b)) (sym f.is) mid.2)

  pub strs_sized : (class : ℕ) (base : Base) (path : Path) (at n : ℕ)
      → part_of image class base path ≡ Some (at, form.Str n) → (1 ≤ n) × (n ≤ 255)
  strs_sized class Component path at n e = sized_from path (form.Object (record { 0 = class })) 0 at n tt e
  strs_sized class Statics [] at n e =
      sized_from [] (form.Object (record { 0 = 0xffff })) 0 at n tt e
  strs_sized class Statics (i ∷ path) at n e =
      let mid = through (part_from image path) (option_map (field_part 0) (slice_get image.static_fields i))
      (let b : Part = (at, form.Str n) in b) e in
      let f = field_part_of 0 image.static_fields i mid.0 mid.1 in
      sized_from path (form_of f.field) (0 + f.field.offset) at n (static_sized i f.field f.stands)
      (subst (λ (x : Part). part_from image path x ≡ Some (let b : Part = (at, form.Str n) in b)) (sym f.is) mid.2)
