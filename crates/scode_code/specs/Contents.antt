-- The contents that the bytes of an object stand for, by path: its first bytes, or those that it has now.
use Rattle.std.specs.Prelude.{ℕ, zero, suc, ◌+◌, ◌*◌, List, [], ◌∷◌, ◌++◌, map, length, take, drop, slice_get}
use Rattle.std.specs.Int.{cast_signed, w32, w64}
use Rattle.std.specs.List.{flat_map, enumerate_from, range_with_len}
use Rattle.std.specs.Option.{option_map_or}
use Rattle.sed_value.specs.declared.value.Value.{Value}
use Rattle.sed_value.specs.declared.value.Value.TheVariants as kept
use Rattle.sed_value.specs.declared.slot_type.Primitive.{Primitive}
use Rattle.sed_value.specs.declared.slot_type.Primitive.TheVariants.{Bool, Byte, Short, Int, Long}
use Rattle.sed_value.specs.SlotType.{width_of}
use Rattle.sed_typed.specs.declared.program.FieldForm.{FieldForm}
use Rattle.sed_typed.specs.declared.program.FieldForm.TheVariants as form
use Rattle.sed_typed.specs.Contents.{Path, Contents}
use Rattle.sed_wire.specs.Number.{number_of}
use Rattle.scode_image.specs.declared.image.Image.{Image}
use Rattle.scode_image.specs.declared.image.ImageField.{ImageField}
use Rattle.scode_code.specs.Tables.{class_fields, form_of}

-- the bytes of a width from an offset on
abbrev pub bytes_at : List ℕ → ℕ → ℕ → List ℕ
bytes_at bytes offset width = take width (drop offset bytes)

abbrev pub primitive_from : Primitive → List ℕ → Value
primitive_from Bool bytes = kept.Bool (number_of bytes)
primitive_from Byte bytes = kept.Byte (number_of bytes)
primitive_from Short bytes = kept.Short (number_of bytes)
primitive_from Int bytes = kept.Int (cast_signed w32 (number_of bytes))
primitive_from Long bytes = kept.Long (cast_signed w64 (number_of bytes))

abbrev pub primitive_at : Primitive → List ℕ → ℕ → Value
primitive_at p bytes offset = primitive_from p (bytes_at bytes offset (width_of p))

-- a Buf is its length in two bytes, and then room for all its bytes, of which it has so many
abbrev pub buf_at : List ℕ → ℕ → Value
buf_at bytes offset = kept.Buf (bytes_at bytes (offset + 2) (number_of (bytes_at bytes offset 2)))

-- what a field at this path holds, where that of objects is known by class, path and bytes
abbrev pub field_held : (ℕ → Path → List ℕ → Contents) → Path → FieldForm → List ℕ → ℕ → Contents
field_held object path (form.Prim p) bytes offset = (path, primitive_at p bytes offset) ∷ []
field_held object path (form.Str n) bytes offset = (path, kept.Buf (bytes_at bytes offset n)) ∷ []
field_held object path (form.Buf n) bytes offset = (path, buf_at bytes offset) ∷ []
field_held object path (form.Array p n) bytes offset =
    map (λ i. (path ++ i ∷ [], primitive_at p bytes (offset + i * width_of p))) (range_with_len 0 n)
field_held object path (form.Object t) bytes offset = object t.0 path (drop offset bytes)

abbrev pub fields_held : (ℕ → Path → List ℕ → Contents) → Path → List ImageField → List ℕ → Contents
fields_held object path fields bytes =
    flat_map (λ (at : ℕ × ImageField). field_held object (path ++ at.0 ∷ []) (form_of at.1) bytes at.1.offset)
    (enumerate_from 0 fields)

-- what these bytes of an object of a class at a path stand for, objects being inside one another at most so deep
abbrev pub object_held : Image → ℕ → ℕ → Path → List ℕ → Contents
object_held image zero class path bytes = []
object_held image (suc depth) class path bytes =
    fields_held (object_held image depth) path (class_fields image class) bytes

-- what an object of a class holds whose bytes are these, and the static block
abbrev pub held : Image → ℕ → List ℕ → Contents
held image class bytes = object_held image (length image.classes) class [] bytes

abbrev pub statics_held : Image → List ℕ → Contents
statics_held image bytes = fields_held (object_held image (length image.classes)) [] image.static_fields bytes

abbrev pub class_bytes : Image → ℕ → List ℕ
class_bytes image class = option_map_or (λ c. c.contents) (slice_get image.classes class) []

-- the contents of a new object of a class, and of the statics before any event
abbrev pub initial : Image → ℕ → Contents
initial image class = held image class (class_bytes image class)

abbrev pub initial_statics : Image → Contents
initial_statics image = statics_held image image.static_bytes

abbrev pub data_size : Image → ℕ → ℕ
data_size image class = length (class_bytes image class)
