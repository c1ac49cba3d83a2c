-- The first bytes of objects and of the statics: those of their fields, one behind another.
use Rattle.std.specs.Prelude.{ℕ, zero, suc, ◌-◌, ◌*◌, List, [], ◌++◌, length, replicate}
use Rattle.std.specs.Int.{w32, w64, bytes_high_first, cast_unsigned}
use Rattle.std.specs.List.{flat_map}
use Rattle.sed_value.specs.SlotType.{width_of}
use Rattle.sed_value.specs.declared.value.Value.{Value}
use Rattle.sed_value.specs.declared.value.Value.TheVariants as kept
use Rattle.sed_typed.specs.declared.program.Field.{Field}
use Rattle.sed_typed.specs.declared.program.FieldForm.{FieldForm}
use Rattle.sed_typed.specs.declared.program.FieldForm.TheVariants.{Prim, Str, Buf, Array, Object}
use Rattle.sed_typed.specs.declared.program.Program.{Program}
use Rattle.sed_typed.specs.Classes.{fields}

-- the number that a value is kept as: of one below 0 its two's complement
abbrev pub number_in : Value → ℕ
number_in (kept.Bool truth) = truth
number_in (kept.Byte number) = number
number_in (kept.Short number) = number
number_in (kept.Int number) = cast_unsigned w32 number
number_in (kept.Long number) = cast_unsigned w64 number
number_in (kept.Buf bytes) = 0
number_in kept.Nothing = 0

-- the contents of a buffer
abbrev pub contents_in : Value → List ℕ
contents_in (kept.Buf bytes) = bytes
contents_in value = []

-- contents in a Buf of a room: their length in two bytes, they themselves, and zeros for the bytes that it has not
abbrev pub buf_bytes : ℕ → List ℕ → List ℕ
buf_bytes room contents =
    bytes_high_first 2 (length contents) ++ contents ++ replicate (room - length contents) 0

-- what a field begins with, where the first bytes of objects are known by class; a number has its highest byte first
abbrev pub field_bytes : (ℕ → List ℕ) → FieldForm → Value → List ℕ
field_bytes object (Prim p) v = bytes_high_first (width_of p) (number_in v)
field_bytes object (Str n) v = replicate n 0
field_bytes object (Buf n) v = buf_bytes n (contents_in v)
field_bytes object (Array p n) v = replicate (n * width_of p) 0
field_bytes object (Object class) v = object class.0

abbrev pub fields_bytes : (ℕ → List ℕ) → List Field → List ℕ
fields_bytes object all = flat_map (λ (f : Field). field_bytes object f.form f.initial) all

-- what an object of a class begins with, objects being inside one another at most so deep
abbrev pub object_bytes : Program → ℕ → ℕ → List ℕ
object_bytes program zero class = []
object_bytes program (suc depth) class = fields_bytes (object_bytes program depth) (fields program class)

-- the first bytes of a new object of a class: no object holds itself, so there are no more levels than classes
abbrev pub first_bytes : Program → ℕ → List ℕ
first_bytes program class = object_bytes program (length program.schema.classes) class

-- the bytes of the statics before any event
abbrev pub static_bytes : Program → List ℕ
static_bytes program = fields_bytes (object_bytes program (length program.schema.classes)) program.statics
