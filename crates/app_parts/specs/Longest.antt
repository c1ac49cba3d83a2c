-- How many bytes a part has at most, of a component of any class of a schema.
use Rattle.std.specs.Prelude.{ℕ, ◌==◌, if◌then◌else◌, List, [], ◌∷◌, filter, max, min, sum_by}
use Rattle.sed_typed.specs.declared.schema.ClassInfo.{ClassInfo}
use Rattle.sed_typed.specs.declared.schema.Schema.{Schema}
use Rattle.sed_typed.specs.declared.schema.SlotInfo.{SlotInfo}
use Rattle.sed_typed.specs.Sizes.{value_size}
use Rattle.sed_value.specs.declared.limits.TheConstants.{LONGEST_PART}
use Rattle.app_parts.specs.Values.{is_told}
use Rattle.app_parts.specs.declared.values.Values.{Values}
use Rattle.app_parts.specs.declared.values.Values.TheVariants.{Config, Runtime}

-- the values that are told of slots, each Buf being full
abbrev pub values_size : Values → List SlotInfo → ℕ
values_size which slots = sum_by (λ (s : SlotInfo). value_size s.form) (filter (is_told which) slots)

-- those of the class that has most; none may have more than 400 bytes
unfoldable pub longest_values : Values → List ClassInfo → ℕ
longest_values which [] = 0
longest_values which (class ∷ classes) = max (min 400 (values_size which class.slots)) (longest_values which classes)

-- the part that a letter names: t with a name of 31 characters and 200 children, c and r by the classes, l with 60
-- links, and f
abbrev pub longest_part : Schema → ℕ → ℕ
longest_part schema letter =
    if letter == 116 then LONGEST_PART
    else if letter == 99 then longest_values Config schema.classes
    else if letter == 114 then longest_values Runtime schema.classes
    else if letter == 108 then 362
    else if letter == 102 then 1
    else 0
