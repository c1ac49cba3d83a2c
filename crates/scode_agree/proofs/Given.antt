-- What is known of a program of which an image is made: what its types say, and the laws of the crates below. From
-- `laid` to `stand` they are laws of layouts, `ascend` and `exist` are of entries, and `sized` is of code.
use Rattle.std.proofs.Common.{◌≡◌, ℕ, Some, length, map}
use Rattle.std.specs.Prelude.{All, IsSomeAnd, slice_get}
use Rattle.std.specs.List.{sum_by}
use Rattle.std.specs.List.Sorted.{IsStrictlyIncreasing}
use Rattle.sed_typed.specs.declared.program.Method.{Method}
use Rattle.sed_typed.specs.declared.program.Program.{Program}
use Rattle.sed_typed.specs.Classes.{fields, find}
use Rattle.sed_typed.specs.Sizes.{data_size}
use Rattle.sed_typed.specs.Spelled.{IsSpelledOut}
use Rattle.sed_typed.specs.Typed.{Typed}
use Rattle.sed_typed.specs.Virtual.{virtual_names}
use Rattle.sed_layout.specs.MethodTables.{MayStand, table_of}
use Rattle.sed_layout.specs.Offsets.{field_width}
use Rattle.scode_image.specs.declared.image.ImageEntry.{ImageEntry}
use Rattle.scode_ops.specs.Codes.{IsOp}
use Rattle.scode_emit.specs.Code.{bytes_of}
use Rattle.scode_emit.specs.Method.{code_of, size_of}
use Rattle.scode_entries.specs.Method.{entries_of}
use Rattle.scode_gen.specs.Generated.{IsShort, image_layout}
use Rattle.scode_made.specs.Laid.{IsLaid, IsTabled}

pub record IsGiven (program : Program) : Type 0 where
  pub typed : Typed program
  pub spelled : IsSpelledOut program
  pub laid : IsLaid program
  pub tabled : IsTabled program
  pub sums : (class : ℕ) → data_size program class ≡ sum_by (field_width program) (fields program class)
  pub nearest : (class : ℕ) → map Some (table_of program class) ≡ map (find program class) (virtual_names program class)
  pub stand : (class : ℕ) → All (λ number. IsSomeAnd (slice_get program.methods number) (MayStand program class))
      (table_of program class)
  pub ascend : (m : Method) → IsStrictlyIncreasing
      (map (λ (e : ImageEntry). e.place) (entries_of program (image_layout program) m))
  pub sized : (m : Method) → length (bytes_of (code_of program (image_layout program) m)) ≡ size_of program
      (image_layout program) m
  pub short : All (IsShort program) program.methods
  pub exist : All (λ m. All IsOp (code_of program (image_layout program) m)) program.methods
