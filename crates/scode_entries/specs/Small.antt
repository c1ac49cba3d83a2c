-- Numbers that fit the operands of instructions.
use Rattle.std.specs.Prelude.{ℕ, ◌^◌, ◌<◌, ◌≤◌, length}
use Rattle.sed_typed.specs.declared.program.Program.{Program}
use Rattle.sed_typed.specs.Spelled.{IsSpelledOut}
use Rattle.scode_emit.specs.Site.{Layout}

-- Classes, methods and texts are numbered by 16 bits, and so are offsets and rooms; the places of a table by 8.
pub record HasSmallNumbers (program : Program) (layout : Layout) : Type 0 where
  pub spelled : IsSpelledOut program
  pub classes : length program.schema.classes ≤ 2 ^ 16
  pub methods : length program.methods ≤ 2 ^ 16
  pub texts : length program.texts ≤ 2 ^ 16
  pub offset : (class number : ℕ) → layout.offset class number < 2 ^ 16
  pub room : (class number : ℕ) → layout.room class number < 2 ^ 16
  pub static_offset : (number : ℕ) → layout.static_offset number < 2 ^ 16
  pub static_room : (number : ℕ) → layout.static_room number < 2 ^ 16
  pub table_place : (class method : ℕ) → layout.table_place class method < 2 ^ 8
