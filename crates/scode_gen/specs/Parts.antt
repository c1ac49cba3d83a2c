-- What is made of a program before its methods.
use Rattle.std.specs.Prelude.{◌≡◌}
use Rattle.sed_typed.specs.declared.program.Program.{Program}
use Rattle.sed_typed.specs.Classes.{declared_fields}
use Rattle.sed_layout.specs.MethodTables.{table_of}
use Rattle.sed_layout.specs.Offsets.{of_classes, offsets_of}
use Rattle.scode_gen.specs.ImageFields.{class_fields, static_fields}
use Rattle.scode_gen.specs.declared.parts.Parts.{Parts}

-- these are the program's own
pub record AreParts (program : Program) (p : Parts) : Type 0 where
  pub own : p.own.items ≡ of_classes program (declared_fields program.fields)
  pub offsets : p.places.offsets ≡ of_classes program (offsets_of program)
  pub tables : p.places.tables ≡ of_classes program (table_of program)
  pub fields : p.fields.items ≡ of_classes program (class_fields program)
  pub statics : p.statics ≡ static_fields program
