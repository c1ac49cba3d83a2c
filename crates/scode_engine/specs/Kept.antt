-- What a machine stands for, and what is true of all that it keeps.
use Rattle.std.specs.Prelude.{◌≡◌, List, [], IsSomeAnd, Option, refl}
use Rattle.std.specs.Coded.{Coded, code_by, coded×}
use Rattle.sed_typed.specs.Spelled.{CanBeTold}
use Rattle.sed_typed.specs.declared.schema.Schema.{Schema}
use Rattle.scode_image.specs.declared.image.Image.{Image}
use Rattle.scode_code.specs.Tables.{schema_of}
use Rattle.scode_mem.specs.Blocks.{Held}
use Rattle.scode_mem.specs.Kept.{held_code}
use Rattle.scode_cells.specs.declared.cell.Cell.{Cell}
use Rattle.scode_cells.specs.Frames.{Frames}
use Rattle.scode_engine.specs.Loaded.{IsLoaded}
use Rattle.scode_vm.specs.Calling.{AreZeros}
use Rattle.scode_vm.specs.Doings.{HasCells}
use Rattle.scode_ops.specs.declared.op.Op.{Op}
use Rattle.scode_engine.specs.Rows.{AreRows}

-- an image, and the blocks of its live objects and of its statics
pub record Loaded : Type 0 where
  pub image : Image
  pub blocks : Held

abbrev pub loaded : Image → Held → Loaded
loaded image blocks = record { image = image; blocks = blocks }

-- frames of which none runs, with cells enough for any method
pub record HaveRoom (image : Image) (cells : Frames) : Type 0 where
  pub idle : cells.frames ≡ []
  pub enough : HasCells image cells.most

-- The image breaks no rule and its blocks are objects and statics of it; the schema is its own and can be told, what
-- locals begin as is known, its code is decoded, no call runs, and there are cells enough for any.
pub record IsKept (image : Image) (schema : Schema) (zeros : List (List Cell)) (rows : List (List Op))
    (blocks : Held) (cells : Option Frames) : Type 0 where
  pub objects : IsLoaded image blocks
  pub schema_is : schema ≡ schema_of image
  pub told : CanBeTold schema
  pub zeros_are : AreZeros image zeros
  pub rows_are : AreRows image.methods rows
  pub room : IsSomeAnd cells (HaveRoom image)

abbrev pub loaded_code : Coded Image → Coded Loaded
loaded_code image =
    code_by
    (Image × Held)
    (coded× image held_code)
    (λ m. (m.image, m.blocks))
    (λ p. record { image = p.0; blocks = p.1 })
    (λ _. refl)
