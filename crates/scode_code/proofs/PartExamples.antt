-- Parts of a small object and of the static block, computed from the definitions: from paths to places and back, and
-- what bytes of now hold.
use Rattle.std.proofs.Common.{◌≡◌, ℕ, pos, List, [], ◌∷◌, ◌++◌, Option, Some, None, refl}
use Rattle.sed_value.specs.declared.slot_type.Primitive.TheVariants as prim
use Rattle.sed_value.specs.declared.value.Value.TheVariants as kept
use Rattle.sed_typed.specs.declared.program.FieldForm.TheVariants as form
use Rattle.sed_typed.specs.Contents.{Path, value_at}
use Rattle.sed_engine.specs.Values.{Base, Component, Statics, Spot}
use Rattle.scode_image.specs.declared.image.Image.{Image}
use Rattle.scode_code.specs.Contents.{held, initial}
use Rattle.scode_code.specs.Parts.{part_at, ref_of, static_part_at}
use Rattle.scode_code.proofs.Building.{field, image_with, int_0}

-- class 5 has an int, then an object of class 2, which has an int, then a Str of 3 bytes and an array of two shorts
nested : Image
nested = image_with (field 4 8 2 ∷ field 8 6 3 ∷ field 11 11 2 ∷ []) (int_0 ++ 0 ∷ 0 ∷ 0 ∷ 0 ∷ 0 ∷ 0 ∷ 0 ∷ []) [] []

-- ---- from paths to places

object_inside : part_at nested 5 (1 ∷ []) ≡ Some (4, form.Object (record { 0 = 2 }))
unfolding nested
object_inside = refl

int_inside : part_at nested 5 (1 ∷ 0 ∷ []) ≡ Some (4, form.Prim prim.Int)
unfolding nested
int_inside = refl

second_short : part_at nested 5 (3 ∷ 1 ∷ []) ≡ Some (13, form.Prim prim.Short)
unfolding nested
second_short = refl

no_third_short : part_at nested 5 (3 ∷ 2 ∷ []) ≡ None
unfolding nested
no_third_short = refl

no_fifth_field : part_at nested 5 (4 ∷ []) ≡ None
unfolding nested
no_fifth_field = refl

static_int : static_part_at nested (0 ∷ []) ≡ Some (0, form.Prim prim.Int)
unfolding nested
static_int = refl

-- ---- from places to paths

reference : Base → ℕ → ℕ → ℕ → Option Spot
reference base form offset n = ref_of nested 5 (record { base = base; to = field offset form n })

leads : Base → Path → Option Spot
leads base path = Some (record { base = base; path = path })

to_itself : reference Component 8 0 5 ≡ leads Component []
unfolding nested reference leads
to_itself = refl

to_object_inside : reference Component 8 4 2 ≡ leads Component (1 ∷ [])
unfolding nested reference leads
to_object_inside = refl

to_str : reference Component 6 8 3 ≡ leads Component (2 ∷ [])
unfolding nested reference leads
to_str = refl

-- the int at the same place as the object is inside it
to_int_inside : reference Component 4 4 0 ≡ leads Component (1 ∷ 0 ∷ [])
unfolding nested reference leads
to_int_inside = refl

to_statics : reference Statics 8 0 0xffff ≡ leads Statics []
unfolding nested reference leads
to_statics = refl

to_static_int : reference Statics 4 0 0 ≡ leads Statics (0 ∷ [])
unfolding nested reference leads
to_static_int = refl

-- another size, and another offset
to_no_such_str : reference Component 6 8 4 ≡ None
unfolding nested reference
to_no_such_str = refl

to_nothing : reference Component 8 5 2 ≡ None
unfolding nested reference
to_nothing = refl

-- ---- what bytes hold

bytes_of_now : List ℕ
bytes_of_now = 0 ∷ 0 ∷ 0 ∷ 7 ∷ 0 ∷ 0 ∷ 0 ∷ 9 ∷ 65 ∷ 66 ∷ 0 ∷ 0 ∷ 1 ∷ 0 ∷ 2 ∷ []

int_of_now : value_at (held nested 5 bytes_of_now) (1 ∷ 0 ∷ []) ≡ Some (kept.Int (pos 9))
unfolding nested bytes_of_now
int_of_now = refl

str_of_now : value_at (held nested 5 bytes_of_now) (2 ∷ []) ≡ Some (kept.Buf (65 ∷ 66 ∷ 0 ∷ []))
unfolding nested bytes_of_now
str_of_now = refl

short_of_now : value_at (held nested 5 bytes_of_now) (3 ∷ 1 ∷ []) ≡ Some (kept.Short 2)
unfolding nested bytes_of_now
short_of_now = refl

first_int : value_at (initial nested 5) (1 ∷ 0 ∷ []) ≡ Some (kept.Int (pos 0))
unfolding nested
first_int = refl
