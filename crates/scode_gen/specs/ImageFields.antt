-- The fields of classes and the statics, as they stand in an image.
use Rattle.std.specs.Prelude.{ℕ, ◌+◌, List, map}
use Rattle.std.specs.List.{enumerate_from}
use Rattle.sed_value.specs.declared.slot_type.Primitive.{Primitive}
use Rattle.sed_value.specs.declared.slot_type.Primitive.TheVariants.{Bool, Byte, Short, Int, Long}
use Rattle.sed_typed.specs.declared.program.Field.{Field}
use Rattle.sed_typed.specs.declared.program.FieldForm.{FieldForm}
use Rattle.sed_typed.specs.declared.program.FieldForm.TheVariants.{Prim, Str, Buf, Array, Object}
use Rattle.sed_typed.specs.declared.program.Program.{Program}
use Rattle.sed_typed.specs.Classes.{fields}
use Rattle.sed_layout.specs.Offsets.{offset_of, static_offset_of}
use Rattle.scode_image.specs.declared.image.ImageField.{ImageField}

abbrev pub primitive_number : Primitive → ℕ
primitive_number Bool = 1
primitive_number Byte = 2
primitive_number Short = 3
primitive_number Int = 4
primitive_number Long = 5

-- a field of this form at an offset
abbrev pub image_field : ℕ → FieldForm → ImageField
image_field offset (Prim p) = record { offset = offset; form = primitive_number p; n = 0 }
image_field offset (Str n) = record { offset = offset; form = 6; n = n }
image_field offset (Buf n) = record { offset = offset; form = 7; n = n }
image_field offset (Object class) = record { offset = offset; form = 8; n = class.0 }
image_field offset (Array p n) = record { offset = offset; form = 8 + primitive_number p; n = n }

-- fields that stand at these offsets, by their numbers
abbrev pub fields_placed : (ℕ → ℕ) → List Field → List ImageField
fields_placed offset all = map (λ (at : ℕ × Field). image_field (offset at.0) at.1.form) (enumerate_from 0 all)

-- the fields of a class, inherited ones first
abbrev pub class_fields : Program → ℕ → List ImageField
class_fields program class = fields_placed (offset_of program class) (fields program class)

abbrev pub static_fields : Program → List ImageField
static_fields program = fields_placed (static_offset_of program) program.statics
