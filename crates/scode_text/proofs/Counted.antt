-- What the laws of layouts say of how many classes, methods and bytes a program has.
use Rattle.std.proofs.Common.{◌≡◌, ℕ, ◌<◌, ◌≤◌, length, map}
use Rattle.std.specs.Prelude.{All, IsSomeAnd, slice_get}
use Rattle.std.specs.List.{sum_by}
use Rattle.sed_typed.specs.declared.program.Program.{Program}
use Rattle.sed_typed.specs.Classes.{fields, method_name}
use Rattle.sed_typed.specs.Sizes.{data_size}
use Rattle.sed_typed.specs.Virtual.{virtual_names}
use Rattle.sed_layout.specs.MethodTables.{MayStand, table_of}
use Rattle.sed_layout.specs.Offsets.{field_width}

pub record IsCounted (program : Program) : Type 0 where
  pub few_classes : length program.schema.classes ≤ 1024
  pub few_methods : length program.methods ≤ 61440
  pub sums : (class : ℕ) → data_size program class ≡ sum_by (field_width program) (fields program class)
  pub wide : (class : ℕ) → All (λ f. 0 < field_width program f) (fields program class)
  pub statics_wide : All (λ f. 0 < field_width program f) program.statics
  pub names : (class : ℕ) → map (method_name program) (table_of program class) ≡ virtual_names program class
  pub stand : (class : ℕ) → All (λ number. IsSomeAnd (slice_get program.methods number) (MayStand program class)) (table_of program class)
