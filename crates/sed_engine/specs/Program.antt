-- The code that a program is.
use Rattle.std.specs.Prelude.{map, position}
use Rattle.sed_typed.specs.declared.program.Field.{Field}
use Rattle.sed_typed.specs.declared.program.Program.{Program}
use Rattle.sed_typed.specs.Classes.{fields}
use Rattle.sed_typed.specs.Contents.{Shape}
use Rattle.sed_typed.specs.Initial.{initial, initial_statics}
use Rattle.sed_typed.specs.Sizes.{data_size}
use Rattle.sed_typed.specs.TypedSchema.{in_slot}
use Rattle.sed_engine.specs.Asked.{masked}
use Rattle.sed_engine.specs.Code.{Meaning}
use Rattle.sed_engine.specs.Root.{root}

abbrev pub shape_of : Field → Shape
shape_of f = record { form = f.form }

-- a program with its root call as it is defined, whatever is asked
abbrev pub code_of : Program → Meaning
code_of program = record {
  schema = program.schema;
  fields = λ class. map shape_of (fields program class);
  slot_field = λ class slot. position (in_slot slot) (fields program class);
  static_fields = map shape_of program.statics;
  initial = initial program;
  initial_statics = initial_statics program;
  data_size = data_size program;
  root = λ q. root program q.class q.contents q.statics q.which q.argument q.turns q.moment;
}

-- what a program means to all above it: what may be asked is answered
abbrev pub meaning_of : Program → Meaning
meaning_of program = masked (code_of program)
