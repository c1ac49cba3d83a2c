-- Sizes and first contents of small classes, computed from the definitions.
use Rattle.std.proofs.Common.{◌≡◌, pos, true, false, List, [], ◌∷◌, ◌++◌, Some, codes, refl}
use Rattle.sed_value.specs.declared.value.Value.TheVariants as kept
use Rattle.sed_value.specs.declared.slot_type.Primitive.TheVariants as prim
use Rattle.sed_value.specs.declared.slot_type.SlotType.TheVariants as slot
use Rattle.sed_typed.specs.declared.program.Field.{Field}
use Rattle.sed_typed.specs.declared.program.FieldForm.TheVariants as form
use Rattle.sed_typed.specs.declared.program.Program.{Program}
use Rattle.sed_typed.specs.declared.schema.ActionArg.TheVariants as argument
use Rattle.sed_typed.specs.declared.schema.SlotInfo.{SlotInfo}
use Rattle.sed_typed.specs.declared.schema.SlotForm.TheVariants.{Prop, Action}
use Rattle.sed_typed.specs.Initial.{initial, initial_statics}
use Rattle.sed_typed.specs.Objects.{class_at, static_class_at}
use Rattle.sed_typed.specs.Sizes.{data_size, config_size, runtime_size}
use Rattle.sed_engine.proofs.Building.{field, class_info, program_of}

-- the fields of class 6, which stand in class 5 as an inline object
inner : List Field
inner = field 6 (form.Prim prim.Short) (kept.Short 9) ∷ field 6 (form.Prim prim.Bool) (kept.Bool 2) ∷ []

-- one field of each form
outer : List Field
outer =
    field 5 (form.Prim prim.Bool) (kept.Bool 1)
    ∷ field 5 (form.Prim prim.Byte) (kept.Byte 200)
    ∷ field 5 (form.Prim prim.Short) (kept.Short 300)
    ∷ field 5 (form.Prim prim.Int) (kept.Int (pos 4))
    ∷ field 5 (form.Prim prim.Long) (kept.Long (pos 5))
    ∷ field 5 (form.Str 3) kept.Nothing
    ∷ field 5 (form.Buf 4) (kept.Buf (104 ∷ 0 ∷ []))
    ∷ field 5 (form.Array prim.Int 2) kept.Nothing
    ∷ field 5 (form.Object (record { 0 = 6 })) kept.Nothing
    ∷ []

-- the fields of each form as statics too, and class 7 below class 5 with one more field; the inner class stands last
all_forms : Program
all_forms = record (program_of (class_info 1 0 (codes "Outer") (Some 2) true ∷ class_info 1 1 (codes "Inner") (Some 0) false ∷ class_info 1 2 (codes "Below") (Some 5) true ∷ [])
    (field 7 (form.Prim prim.Long) (kept.Long (pos 7)) ∷ (outer ++ inner)) []) { statics = outer }

-- 4 of `meta`, 1 + 1 + 2 + 4 + 8, 3, 4 + 2, 2 * 4, and 2 + 1 of the object
size_of_all : data_size all_forms 5 ≡ 40
unfolding all_forms outer inner
size_of_all = refl

size_below : data_size all_forms 7 ≡ 48
unfolding all_forms outer inner
size_below = refl

-- an inherited field comes first, a Str and an array begin with zeros, and an object with what its class says
first_of_below : initial all_forms 7 ≡
    (0 ∷ [], kept.Int (pos 0))
    ∷ (1 ∷ [], kept.Bool 1)
    ∷ (2 ∷ [], kept.Byte 200)
    ∷ (3 ∷ [], kept.Short 300)
    ∷ (4 ∷ [], kept.Int (pos 4))
    ∷ (5 ∷ [], kept.Long (pos 5))
    ∷ (6 ∷ [], kept.Buf (0 ∷ 0 ∷ 0 ∷ []))
    ∷ (7 ∷ [], kept.Buf (104 ∷ 0 ∷ []))
    ∷ (8 ∷ 0 ∷ [], kept.Int (pos 0))
    ∷ (8 ∷ 1 ∷ [], kept.Int (pos 0))
    ∷ (9 ∷ 0 ∷ [], kept.Short 9)
    ∷ (9 ∷ 1 ∷ [], kept.Bool 2)
    ∷ (10 ∷ [], kept.Long (pos 7))
    ∷ []
unfolding all_forms outer inner
first_of_below = refl

first_statics : initial_statics all_forms ≡
    (0 ∷ [], kept.Bool 1)
    ∷ (1 ∷ [], kept.Byte 200)
    ∷ (2 ∷ [], kept.Short 300)
    ∷ (3 ∷ [], kept.Int (pos 4))
    ∷ (4 ∷ [], kept.Long (pos 5))
    ∷ (5 ∷ [], kept.Buf (0 ∷ 0 ∷ 0 ∷ []))
    ∷ (6 ∷ [], kept.Buf (104 ∷ 0 ∷ []))
    ∷ (7 ∷ 0 ∷ [], kept.Int (pos 0))
    ∷ (7 ∷ 1 ∷ [], kept.Int (pos 0))
    ∷ (8 ∷ 0 ∷ [], kept.Short 9)
    ∷ (8 ∷ 1 ∷ [], kept.Bool 2)
    ∷ []
unfolding all_forms outer inner
first_statics = refl

-- the class of an object is that of its field
class_inside : class_at all_forms (9 ∷ []) 7 ≡ Some 6
unfolding all_forms outer inner
class_inside = refl

class_of_all : class_at all_forms [] 7 ≡ Some 7
class_of_all = refl

class_in_statics : static_class_at all_forms (8 ∷ []) ≡ Some 6
unfolding all_forms outer inner
class_in_statics = refl

-- a kept int and a Buf, and a bool, a long and an action that are not kept
some_slots : List SlotInfo
some_slots =
    record { name = codes "a"; config = true; form = Prop (slot.Prim prim.Int) }
    ∷ record { name = codes "b"; config = false; form = Prop (slot.Prim prim.Bool) }
    ∷ record { name = codes "c"; config = true; form = Prop (slot.Buf 4) }
    ∷ record { name = codes "d"; config = false; form = Prop (slot.Prim prim.Long) }
    ∷ record { name = codes "e"; config = false; form = Action argument.Long }
    ∷ []

config_of_some : config_size some_slots ≡ 10
unfolding some_slots
config_of_some = refl

runtime_of_some : runtime_size some_slots ≡ 9
unfolding some_slots
runtime_of_some = refl
