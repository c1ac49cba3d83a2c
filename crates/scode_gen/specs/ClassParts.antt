-- What is told beside a class.
use Rattle.std.specs.Prelude.{◌≡◌, ◌≤◌, length}
use Rattle.sed_typed.specs.Classes.{fields}
use Rattle.sed_typed.specs.Typed.{Typed}
use Rattle.sed_layout.specs.MethodTables.{table_of}
use Rattle.sed_layout.specs.Offsets.{offsets_of}
use Rattle.scode_gen.specs.declared.image_slots.ClassParts.{ClassParts}

-- these are the class's own
pub record AreOfClass (p : ClassParts) : Type 0 where
  pub typed : Typed p.program.now
  pub fields : p.all.now ≡ fields p.program.now p.class
  pub offsets : p.offsets.now ≡ offsets_of p.program.now p.class
  pub table : p.table.now ≡ table_of p.program.now p.class
  pub few : length p.table.now ≤ 255
