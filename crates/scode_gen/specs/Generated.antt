-- The image of a program.
use Rattle.std.specs.Prelude.{ℕ, ◌<◌, ◌≤◌, All, IsSomeAnd, map, slice_get, take}
use Rattle.sed_typed.specs.declared.program.Method.{Method}
use Rattle.sed_typed.specs.declared.program.Program.{Program}
use Rattle.sed_layout.specs.MethodTables.{table_of}
use Rattle.sed_layout.specs.Offsets.{of_classes}
use Rattle.scode_image.specs.declared.image.Image.{Image}
use Rattle.scode_emit.specs.Method.{size_of}
use Rattle.scode_emit.specs.Rows.{layout_of}
use Rattle.scode_emit.specs.Site.{Layout}
use Rattle.scode_entries.specs.Method.{image_method}
use Rattle.scode_gen.specs.Classes.{image_kit, image_classes}
use Rattle.scode_gen.specs.FirstBytes.{static_bytes}
use Rattle.scode_gen.specs.ImageFields.{class_fields, static_fields}

-- where the data and methods of a program lie, as its image says
abbrev pub image_layout : Program → Layout
image_layout program =
    layout_of (of_classes program (class_fields program)) (static_fields program)
    (of_classes program (table_of program))

abbrev pub image_of : Program → Image
image_of program = record {
  kits = map image_kit program.schema.kits;
  classes = image_classes program program.schema.classes;
  static_fields = static_fields program;
  static_bytes = static_bytes program;
  texts = program.texts;
  methods = map (image_method program (image_layout program)) program.methods;
}

-- the code of a method is no longer than an image may have it
abbrev pub IsShort : Program → Method → Type 0
IsShort program m = size_of program (image_layout program) m ≤ 65535

-- the code of the method with this number passes 65,535 bytes, and that of none before it
pub record IsFirstTooLong (program : Program) (number : ℕ) : Type 0 where
  pub too_long : IsSomeAnd (slice_get program.methods number) (λ m.
      65535 < size_of program (image_layout program) m)
  pub before : All (IsShort program) (take number program.methods)
