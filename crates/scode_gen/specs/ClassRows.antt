-- Rows of what classes have.
use Rattle.std.specs.Prelude.{◌≡◌}
use Rattle.sed_typed.specs.Classes.{declared_fields}
use Rattle.sed_typed.specs.Typed.{Typed}
use Rattle.sed_layout.specs.MethodTables.{table_of}
use Rattle.sed_layout.specs.Offsets.{of_classes, offsets_of}
use Rattle.scode_gen.specs.ImageFields.{class_fields}
use Rattle.scode_gen.specs.declared.image_classes.ClassRows.{ClassRows}

-- these are the program's own, for each class in order
pub record AreRows (r : ClassRows) : Type 0 where
  pub typed : Typed r.program.now
  pub own : r.own.now ≡ of_classes r.program.now (declared_fields r.program.now.fields)
  pub offsets : r.offsets.now ≡ of_classes r.program.now (offsets_of r.program.now)
  pub fields : r.fields.now ≡ of_classes r.program.now (class_fields r.program.now)
  pub tables : r.tables.now ≡ of_classes r.program.now (table_of r.program.now)
