-- The code that an image is.
use Rattle.std.specs.Prelude.{map}
use Rattle.sed_engine.specs.Asked.{masked}
use Rattle.sed_engine.specs.Code.{Meaning}
use Rattle.scode_image.specs.declared.image.Image.{Image}
use Rattle.scode_code.specs.Tables.{schema_of, shape_of, class_fields, slot_field}
use Rattle.scode_code.specs.Contents.{initial, initial_statics, data_size}
use Rattle.scode_code.specs.Root.{root}

-- an image with its root call as it is defined, whatever is asked
abbrev pub code_of : Image → Meaning
code_of image = record {
  schema = schema_of image;
  fields = λ class. map shape_of (class_fields image class);
  slot_field = slot_field image;
  static_fields = map shape_of image.static_fields;
  initial = initial image;
  initial_statics = initial_statics image;
  data_size = data_size image;
  root = λ q. root image q.class q.contents q.statics q.which q.argument q.turns q.moment;
}

-- what an image means to all above it: what may be asked is answered
abbrev pub meaning_of : Image → Meaning
meaning_of image = masked (code_of image)
