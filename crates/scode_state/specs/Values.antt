-- What blocks hold, by path: the values that the bytes of a part stand for.
use Rattle.std.specs.Prelude.{ℕ, ◌≡◌, ◌≤◌, ◌+◌, ◌*◌, List, length, Option, Some, None}
use Rattle.sed_value.specs.declared.value.Value.{Value}
use Rattle.sed_value.specs.declared.value.Value.TheVariants as kept
use Rattle.sed_value.specs.SlotType.{width_of}
use Rattle.sed_typed.specs.declared.program.FieldForm.{FieldForm}
use Rattle.sed_typed.specs.declared.program.FieldForm.TheVariants as form
use Rattle.sed_typed.specs.Contents.{Contents, Path}
use Rattle.sed_wire.specs.Number.{number_of}
use Rattle.sed_engine.specs.Values.{Base, Component, Statics}
use Rattle.scode_image.specs.declared.image.Image.{Image}
use Rattle.scode_code.specs.Contents.{buf_at, bytes_at, data_size, held, primitive_at, statics_held}
use Rattle.scode_code.specs.Parts.{Part, part_of}

-- ---- blocks

-- what a block holds whose bytes are these: that of a component of this class, or the static one
abbrev pub held_in : Image → ℕ → Base → List ℕ → Contents
held_in image class Component bytes = held image class bytes
held_in image class Statics bytes = statics_held image bytes

-- how many bytes it has
abbrev pub size_in : Image → ℕ → Base → ℕ
size_in image class Component = data_size image class
size_in image class Statics = length image.static_bytes

-- ---- parts

-- how many bytes a part of a form takes
abbrev pub part_width : Image → FieldForm → ℕ
part_width image (form.Prim p) = width_of p
part_width image (form.Str n) = n
part_width image (form.Buf n) = n + 2
part_width image (form.Array p n) = n * width_of p
part_width image (form.Object t) = data_size image t.0

-- what the bytes of a part stand for; an object and an array hold values, and are none
abbrev pub value_from : List ℕ → Part → Option Value
value_from bytes (offset, form.Prim p) = Some (primitive_at p bytes offset)
value_from bytes (offset, form.Str n) = Some (kept.Buf (bytes_at bytes offset n))
value_from bytes (offset, form.Buf n) = Some (buf_at bytes offset)
value_from bytes (offset, form.Array p n) = None
value_from bytes (offset, form.Object t) = None

-- each Buf in a block has at most as many bytes as there is room for: first bytes are so, and writes keep it
abbrev pub BufsFit : Image → ℕ → Base → List ℕ → Type 0
BufsFit image class base bytes = (path : Path) (offset n : ℕ)
    → part_of image class base path ≡ Some (offset, form.Buf n) → number_of (bytes_at bytes offset 2) ≤ n
