-- What new objects and the statics contain.
use Rattle.std.specs.Prelude.{ℕ, pos, zero, suc, List, [], ◌∷◌, ◌++◌, map, replicate, length}
use Rattle.std.specs.List.{flat_map, enumerate_from, range_with_len}
use Rattle.sed_value.specs.declared.value.Value.{Value}
use Rattle.sed_value.specs.declared.value.Value.TheVariants.{Bool as OfBool, Byte as OfByte, Short as OfShort}
use Rattle.sed_value.specs.declared.value.Value.TheVariants.{Int as OfInt, Long as OfLong, Buf as OfBytes}
use Rattle.sed_value.specs.declared.slot_type.Primitive.{Primitive}
use Rattle.sed_value.specs.declared.slot_type.Primitive.TheVariants.{Bool, Byte, Short, Int, Long}
use Rattle.sed_typed.specs.declared.program.FieldForm.{FieldForm}
use Rattle.sed_typed.specs.declared.program.FieldForm.TheVariants.{Prim, Str, Buf, Array, Object}
use Rattle.sed_typed.specs.declared.program.Field.{Field}
use Rattle.sed_typed.specs.declared.program.Program.{Program}
use Rattle.sed_typed.specs.Classes.{fields}
use Rattle.sed_typed.specs.Contents.{Path, Contents}

-- 0 or false, as an element of an array begins
abbrev pub zero_value : Primitive → Value
zero_value Bool = OfBool 0
zero_value Byte = OfByte 0
zero_value Short = OfShort 0
zero_value Int = OfInt (pos 0)
zero_value Long = OfLong (pos 0)

-- what a field at this path begins with, where that of objects is known by class and path
abbrev pub begun : (ℕ → Path → Contents) → Path → FieldForm → Value → Contents
begun object path (Prim p) v = (path, v) ∷ []
begun object path (Str n) v = (path, OfBytes (replicate n 0)) ∷ []
begun object path (Buf n) v = (path, v) ∷ []
begun object path (Array p n) v = map (λ i. (path ++ i ∷ [], zero_value p)) (range_with_len 0 n)
begun object path (Object t) v = object t.0 path

-- what these fields of the object at a path begin with
abbrev pub fields_begun : (ℕ → Path → Contents) → Path → List Field → Contents
fields_begun object path all =
    flat_map (λ (at : ℕ × Field). begun object (path ++ at.0 ∷ []) at.1.form at.1.initial) (enumerate_from 0 all)

-- what an object of a class at a path begins with, objects being inside one another at most so deep
abbrev pub object_begun : Program → ℕ → ℕ → Path → Contents
object_begun program zero class path = []
object_begun program (suc depth) class path = fields_begun (object_begun program depth) path (fields program class)

-- the contents of a new object of a class
abbrev pub initial : Program → ℕ → Contents
initial program class = object_begun program (length program.schema.classes) class []

-- the contents of the statics before any event
abbrev pub initial_statics : Program → Contents
initial_statics program =
    fields_begun (object_begun program (length program.schema.classes)) [] program.statics
