-- Places in memory: where in its block the part of an object at a path stands, and which part stands at a place.
use Rattle.std.specs.Prelude.{ℕ, zero, suc, ◌+◌, ◌-◌, ◌*◌, ◌==◌, ◌&&◌, nat_le, nat_lt, if◌then◌else◌, List, [], ◌∷◌}
use Rattle.std.specs.Prelude.{length, slice_get, Option, Some, None}
use Rattle.std.specs.Option.{option_and_then, option_map}
use Rattle.sed_value.specs.SlotType.{width_of}
use Rattle.sed_typed.specs.declared.program.FieldForm.{FieldForm}
use Rattle.sed_typed.specs.declared.program.FieldForm.TheVariants as form
use Rattle.sed_typed.specs.Contents.{Path}
use Rattle.sed_engine.specs.Values.{Base, Component, Statics, Spot}
use Rattle.scode_image.specs.declared.image.Image.{Image}
use Rattle.scode_image.specs.declared.image.ImageField.{ImageField}
use Rattle.scode_code.specs.Tables.{class_fields, form_of, is_field}

-- ---- from paths to places

-- what stands from an offset of a block on
abbrev pub Part : Type 0
Part = ℕ × FieldForm

abbrev pub field_part : ℕ → ImageField → Part
field_part offset f = (offset + f.offset, form_of f)

-- a field of an object, or an element of an array
abbrev pub part_in : Image → Part → ℕ → Option Part
part_in image (offset, form.Object t) i = option_map (field_part offset) (slice_get (class_fields image t.0) i)
part_in image (offset, form.Array p n) i = if nat_lt i n then Some (offset + i * width_of p, form.Prim p) else None
part_in image part i = None

abbrev pub part_from : Image → Path → Part → Option Part
part_from image [] part = Some part
part_from image (i ∷ path) part = option_and_then (part_from image path) (part_in image part i)

-- the part at a path of an object of a class, if one is there
abbrev pub part_at : Image → ℕ → Path → Option Part
part_at image class path = part_from image path (0, form.Object (record { 0 = class }))

-- and of the static block, which itself is as an object of class 0xffff
abbrev pub static_part_at : Image → Path → Option Part
static_part_at image [] = Some (0, form.Object (record { 0 = 0xffff }))
static_part_at image (i ∷ path) =
    option_and_then (part_from image path) (option_map (field_part 0) (slice_get image.static_fields i))

-- of what a path from a component of this class, or from the static block, leads to
abbrev pub part_of : Image → ℕ → Base → Path → Option Part
part_of image class Component path = part_at image class path
part_of image class Statics path = static_part_at image path

-- ---- from places to paths

-- what a reference in memory is: the block, and the offset, form and n of the field, or of the whole object, that it
-- is to
pub record Reference : Type 0 where
  pub base : Base
  pub to : ImageField

abbrev pub or_next : ℕ → Option Path → Option Path → Option Path
or_next number (Some path) next = Some (number ∷ path)
or_next number None next = next

-- the path to a field among these, numbered from here on, or to one inside an object among them
abbrev pub path_among : (ℕ → ImageField → Option Path) → ImageField → ℕ → List ImageField → Option Path
path_among inside to number [] = None
path_among inside to number (f ∷ fs) =
    if is_field to.form to.offset to.n f then Some (number ∷ [])
    else or_next number
    (if (f.form == 8) && nat_le f.offset to.offset then inside f.n (record to { offset = to.offset - f.offset })
    else None)
    (path_among inside to (suc number) fs)

-- the path to a field inside an object of a class, objects being inside one another at most so deep
abbrev pub path_inside : Image → ℕ → ℕ → ImageField → Option Path
path_inside image zero class to = None
path_inside image (suc depth) class to = path_among (path_inside image depth) to 0 (class_fields image class)

abbrev pub path_to : Image → ℕ → Base → ImageField → Option Path
path_to image class Component to =
    if is_field 8 0 class to then Some [] else path_inside image (length image.classes) class to
path_to image class Statics to =
    if is_field 8 0 0xffff to then Some []
    else path_among (path_inside image (length image.classes)) to 0 image.static_fields

-- the reference that one in memory is, on a component of this class
abbrev pub ref_of : Image → ℕ → Reference → Option Spot
ref_of image class r = option_map (λ path. record { base = r.base; path = path }) (path_to image class r.base r.to)
