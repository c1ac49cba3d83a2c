-- Where the fields of an object stand in its data, and the statics in theirs: one behind another, without padding.
use Rattle.std.specs.Prelude.{ℕ, ◌≡◌, ◌+◌, ◌<◌, List, length, map, sum_by, take}
use Rattle.std.specs.List.{range_with_len}
use Rattle.sed_typed.specs.declared.program.Field.{Field}
use Rattle.sed_typed.specs.declared.program.Program.{Program}
use Rattle.sed_typed.specs.Classes.{fields}
use Rattle.sed_typed.specs.Sizes.{data_size, form_size}
use Rattle.sed_typed.specs.TypedSchema.{Begins}

-- how many bytes a field takes
abbrev pub field_width : Program → Field → ℕ
field_width program f = form_size (data_size program) f.form

-- the sum of the widths of the fields before the one of this number
abbrev pub width_before : Program → List Field → ℕ → ℕ
width_before program all number = sum_by (field_width program) (take number all)

-- the offset of a field of a class, by its number, in the data of an object
abbrev pub offset_of : Program → ℕ → ℕ → ℕ
offset_of program class number = width_before program (fields program class) number

-- the offset of a static, by its number, in the data of all statics
abbrev pub static_offset_of : Program → ℕ → ℕ
static_offset_of program number = width_before program program.statics number

-- ---- of all together

-- the offsets of the fields of a class, in their order
abbrev pub offsets_of : Program → ℕ → List ℕ
offsets_of program class = map (offset_of program class) (range_with_len 0 (length (fields program class)))

-- the offsets of the statics, in their order
abbrev pub static_offsets : Program → List ℕ
static_offsets program = map (static_offset_of program) (range_with_len 0 (length program.statics))

-- what each class has, in the order of the classes
abbrev pub of_classes : {X : Type 0} → Program → (ℕ → X) → List X
of_classes program f = map f (range_with_len 0 (length program.schema.classes))

-- the offsets of fields that stand one behind another from a start on
abbrev pub offsets_behind : Program → ℕ → List Field → List ℕ
offsets_behind program start all =
    map (λ number. start + width_before program all number) (range_with_len 0 (length all))

-- ---- what is inherited

-- the fields of one class come first among those of another, and stand where they stood
pub record KeepsFields (program : Program) (above class : ℕ) : Type 0 where
  pub first : Begins (fields program above) (fields program class)
  pub offsets : (number : ℕ) → number < length (fields program above) →
      offset_of program class number ≡ offset_of program above number
