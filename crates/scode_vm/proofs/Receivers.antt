-- The class of a receiver: it is that in its cell.
use Rattle.std.proofs.Common.{◌≡◌, ◌≢◌, ◌+◌, ℕ, [], ◌∷◌, Option, Some, None, refl, sym, ap, subst, ◌∙◌}
use Rattle.std.specs.Prelude.{slice_get}
use Rattle.std.specs.Option.{option_and_then, option_map}
use Rattle.sed_typed.specs.declared.number.TypeNo.{TypeNo}
use Rattle.sed_typed.specs.declared.program.FieldForm.{FieldForm}
use Rattle.sed_typed.specs.declared.program.FieldForm.TheVariants as form
use Rattle.sed_typed.specs.Contents.{Path}
use Rattle.sed_typed.specs.Objects.{class_in, form_class, object_in}
use Rattle.sed_engine.specs.declared.call.Place.{Place}
use Rattle.sed_engine.specs.Values.{Base, Component, Statics, Spot}
use Rattle.scode_image.specs.declared.image.Image.{Image}
use Rattle.scode_image.specs.declared.image.ImageField.{ImageField}
use Rattle.scode_code.specs.Fields.{class_of}
use Rattle.scode_code.specs.Parts.{Part, field_part, part_from, part_in, part_of}
use Rattle.scode_code.specs.Tables.{class_fields, form_of}
use Rattle.scode_mem.specs.declared.block.Block.{Block}
use Rattle.scode_cells.specs.declared.cell.Cell.TheVariants as cell
use Rattle.scode_state.specs.References.{block_of, leads_to}
use Rattle.scode_vm.specs.Calling.{in_image}
use Rattle.scode_vm.specs.Seen.{spot_in}

-- what the laws of values by path say
abbrev pub ObjectsLead : Type 0
ObjectsLead = (image : Image) (class : ℕ) (place : Place) (b : Block) (offset k : ℕ) (spot : Spot)
    → leads_to image class place (cell.Object b offset k) ≡ Some spot
    → (b ≡ block_of place spot.base)
    × (part_of image class spot.base spot.path ≡ Some (offset, form.Object (record { 0 = k })))

abbrev pub StrsLead : Type 0
StrsLead = (image : Image) (class : ℕ) (place : Place) (b : Block) (offset n : ℕ) (spot : Spot)
    → leads_to image class place (cell.Str b offset n) ≡ Some spot
    → (b ≡ block_of place spot.base) × (part_of image class spot.base spot.path ≡ Some (offset, form.Str n))

abbrev pub ClassesAre : Type 0
ClassesAre = (image : Image) (class : ℕ) (base : Base) (path : Path) (at : ℕ) (t : TypeNo)
    → part_of image class base path ≡ Some (at, form.Object t) → (base ≡ Statics → path ≢ [])
    → class_of (record { image = image; class = class }) (record { base = base; path = path }) ≡ Some t.0

-- ---- an object has the class of its cell; the static block has none

is_statics : (image : Image) (class : ℕ) (spot : Spot) → spot.base ≡ Statics → spot.path ≡ []
    → class_of (in_image image class) spot ≡ None
is_statics image class spot b p =
    ap (λ (x : Base). class_of (in_image image class) (record { base = x; path = spot.path })) b
    ∙ ap (λ (x : Path). class_of (in_image image class) (record { base = Statics; path = x })) p

no_class : {A : Type 0} (o : Option ℕ) (k : ℕ) → o ≡ None → o ≡ Some k → A
no_class o k e f = absurd (let both : None ≡ Some k = sym e ∙ f in cc)

-- where there is a class it is the cell's
pub class_in_cell : ObjectsLead → ClassesAre → (image : Image) (class : ℕ) (place : Place) (b : Block) (offset k : ℕ)
    (spot : Spot) (found : ℕ) → spot_in (in_image image class) place (cell.Object b offset k) ≡ Some spot
    → class_of (in_image image class) spot ≡ Some found → class_of (in_image image class) spot ≡ Some k
unfolding spot_in
class_in_cell lead are image class place b offset k spot found led known =
    are image class spot.base spot.path offset (record { 0 = k }) (lead image class place b offset k spot led).1
    (λ base path. no_class (class_of (in_image image class) spot) found (is_statics image class spot base path) known)

-- ---- a Str is no object

no_part : {A : Type 0} (p : Part) → None ≡ Some p → A
no_part p e = absurd (cc)

one_part : (p q : Part) → Some p ≡ Some q → p ≡ q
one_part p q e = cc

passed : {A : Type 0} (o : Option A) (f : A → Option Part) (p : Part) → option_and_then f o ≡ Some p
    → (a : A) × (o ≡ Some a) × (f a ≡ Some p)
passed None f p e = no_part p e
passed (Some a) f p e = (a, refl, e)

mapped : {A : Type 0} (o : Option A) (f : A → Part) (p : Part) → option_map f o ≡ Some p
    → (a : A) × (o ≡ Some a) × (f a ≡ p)
mapped None f p e = no_part p e
mapped (Some a) f p e = (a, refl, one_part (f a) p e)

module _ (image : Image) (at n : ℕ) where
  abbrev text : Part
  text = (at, form.Str n)

  inside : (path : Path) (g : FieldForm) (offset : ℕ) → part_from image path (offset, g) ≡ Some text
      → object_in form_of (class_fields image) path (form_class g) ≡ None
  inside [] g offset e =
      ap (λ (p : Part). object_in form_of (class_fields image) [] (form_class p.1))
      (one_part (let a : Part = (offset, g) in a) text e)
  inside (i ∷ path) (form.Prim p) offset e = refl
  inside (i ∷ path) (form.Str m) offset e = refl
  inside (i ∷ path) (form.Buf m) offset e = refl
  inside (i ∷ path) (form.Array p m) offset e = refl
  inside (i ∷ path) (form.Object k) offset e =
      let mid = passed (part_in image (offset, form.Object k) i) (part_from image path) text e in
      let f = mapped (slice_get (class_fields image k.0) i) (field_part offset) mid.0 mid.1 in
      ap (λ (x : Option ImageField). object_in form_of (class_fields image) path (class_in form_of x)) f.1
      ∙ inside path (form_of f.0) (offset + f.0.offset)
      (subst (λ (x : Part). part_from image path x ≡ Some text) (sym f.2) mid.2)

  no_object : (class : ℕ) (base : Base) (path : Path) → part_of image class base path ≡ Some text
      → class_of (in_image image class) (record { base = base; path = path }) ≡ None
  no_object class Component path e = inside path (form.Object (record { 0 = class })) 0 e
  no_object class Statics [] e = refl
  no_object class Statics (i ∷ path) e =
      let mid = passed (option_map (field_part 0) (slice_get image.static_fields i)) (part_from image path) text e in
      let f = mapped (slice_get image.static_fields i) (field_part 0) mid.0 mid.1 in
      ap (λ (x : Option ImageField). object_in form_of (class_fields image) path (class_in form_of x)) f.1
      ∙ inside path (form_of f.0) (0 + f.0.offset)
      (subst (λ (x : Part). part_from image path x ≡ Some text) (sym f.2) mid.2)

pub class_of_str : StrsLead → (image : Image) (class : ℕ) (place : Place) (b : Block) (offset n : ℕ) (spot : Spot)
    → spot_in (in_image image class) place (cell.Str b offset n) ≡ Some spot
    → class_of (in_image image class) spot ≡ None
unfolding spot_in
class_of_str lead image class place b offset n spot led =
    no_object image offset n class spot.base spot.path (lead image class place b offset n spot led).1
