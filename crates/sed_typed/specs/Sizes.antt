-- Sizes in bytes: of data, without padding, and of the values of slots.
use Rattle.std.specs.Prelude.{ℕ, zero, suc, ◌+◌, ◌*◌, List, length, not, filter, sum_by}
use Rattle.sed_value.specs.SlotType.{width_of}
use Rattle.sed_value.specs.declared.slot_type.SlotType.TheVariants as slot
use Rattle.sed_typed.specs.declared.schema.SlotForm.{SlotForm}
use Rattle.sed_typed.specs.declared.schema.SlotForm.TheVariants.{Prop, Action}
use Rattle.sed_typed.specs.declared.schema.SlotInfo.{SlotInfo}
use Rattle.sed_typed.specs.declared.program.FieldForm.{FieldForm}
use Rattle.sed_typed.specs.declared.program.FieldForm.TheVariants.{Prim, Str, Buf, Array, Object}
use Rattle.sed_typed.specs.declared.program.Program.{Program}
use Rattle.sed_typed.specs.Classes.{fields}

-- the size of a field, where the sizes of objects are known
abbrev pub form_size : (ℕ → ℕ) → FieldForm → ℕ
form_size object (Prim p) = width_of p
form_size object (Str n) = n
form_size object (Buf n) = n + 2
form_size object (Array p n) = n * width_of p
form_size object (Object t) = object t.0

-- the sum of the sizes of a class's fields, objects being inside one another at most so deep
abbrev pub data_within : Program → ℕ → ℕ → ℕ
data_within program zero class = 0
data_within program (suc depth) class =
    sum_by (λ f. form_size (data_within program depth) f.form) (fields program class)

-- the data size of a class: no object holds itself, so there are no more levels than classes
abbrev pub data_size : Program → ℕ → ℕ
data_size program class = data_within program (length program.schema.classes) class

-- the size of a slot's value as it is written out: a Buf has its length before its bytes
abbrev pub value_size : SlotForm → ℕ
value_size (Prop (slot.Prim p)) = width_of p
value_size (Prop (slot.Buf n)) = n + 2
value_size (Action a) = 0

-- the values that the application file keeps, and the others
abbrev pub config_size : List SlotInfo → ℕ
config_size slots = sum_by (λ s. value_size s.form) (filter (λ s. s.config) slots)

abbrev pub runtime_size : List SlotInfo → ℕ
runtime_size slots = sum_by (λ s. value_size s.form) (filter (λ s. not s.config) slots)
