-- The object that a reference leads to, and its field of a form, offset and n.
use Rattle.std.specs.Prelude.{ℕ, List, [], position, ◌==◌, ◌&&◌, Option, Some, None}
use Rattle.sed_typed.specs.Contents.{Path}
use Rattle.sed_typed.specs.Objects.{object_in, static_object_in}
use Rattle.sed_engine.specs.Stops.{there}
use Rattle.sed_engine.specs.Values.{Val, Base, Component, Statics, Spot, spot_of}
use Rattle.sed_engine.specs.State.{State, End, answers, gives, then_do}
use Rattle.sed_engine.specs.Steps.{inside}
use Rattle.scode_image.specs.declared.image.Image.{Image}
use Rattle.scode_image.specs.declared.image.ImageField.{ImageField}
use Rattle.scode_code.specs.Tables.{class_fields, form_of, field_number}

-- what a step stands in: the image, and the class of the component
pub record Setting : Type 0 where
  pub image : Image
  pub class : ℕ

-- the class of an object; the static block has none
abbrev pub class_of : Setting → Spot → Option ℕ
class_of w spot = class_from w spot.base spot.path
  where
    class_from : Setting → Base → Path → Option ℕ
    class_from w Component path = object_in form_of (class_fields w.image) path (Some w.class)
    class_from w Statics path = static_object_in form_of (class_fields w.image) w.image.static_fields path

-- the fields of an object or of the static block; of what is neither there are none
abbrev pub fields_from : Setting → Base → Path → Option ℕ → List ImageField
fields_from w Statics [] class = w.image.static_fields
fields_from w base path None = []
fields_from w base path (Some class) = class_fields w.image class

abbrev pub fields_at : Setting → Spot → List ImageField
fields_at w spot = fields_from w spot.base spot.path (class_of w spot)

-- the place of the field of this form, offset and n of an object: null is tested
abbrev pub field_at : Setting → Val → ℕ → ℕ → ℕ → State → End Spot
field_at w object form offset n s =
    then_do (answers (spot_of object) s)
    (λ spot s1. then_do (answers (there (field_number (fields_at w spot) form offset n)) s1)
    (λ i s2. gives (inside spot i) s2))

-- the place of the Buf at an offset, whatever its capacity
abbrev pub buf_number : List ImageField → ℕ → Option ℕ
buf_number fields offset = position (λ f. (f.form == 7) && (f.offset == offset)) fields

abbrev pub buf_at : Setting → Val → ℕ → State → End Spot
buf_at w object offset s =
    then_do (answers (spot_of object) s)
    (λ spot s1. then_do (answers (there (buf_number (fields_at w spot) offset)) s1)
    (λ i s2. gives (inside spot i) s2))
