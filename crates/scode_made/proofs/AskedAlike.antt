-- An image may be asked what its program may be asked.
use Rattle.std.proofs.Common.{◌≡◌, ◌≤◌, length, refl, sym, ap, ◌∙◌, ℕ}
use mathlib.Core.Path.{fun_ext}
use Rattle.std.specs.List.{sum_by}
use Rattle.sed_typed.specs.declared.program.Program.{Program}
use Rattle.sed_typed.specs.Classes.{fields}
use Rattle.sed_typed.specs.Sizes.{data_size}
use Rattle.sed_typed.specs.Typed.{Typed}
use Rattle.sed_engine.specs.Asked.{may_ask}
use Rattle.sed_engine.specs.Code.{Meaning, Question}
use Rattle.sed_engine.specs.Program as language
use Rattle.sed_layout.specs.Offsets.{field_width}
use Rattle.scode_code.specs.Image as machine
use Rattle.scode_gen.specs.Generated.{image_of}
use Rattle.scode_made.proofs.FirstContents.{initial_everywhere, initial_statics_are}
use Rattle.scode_made.proofs.MadeData.{class_shapes, static_shapes}
use Rattle.scode_made.proofs.MadeSchema.{schema_back}

-- a code with all that a question is held against of another
abbrev with_data : Meaning → Meaning → Meaning
with_data m n = record n {
  schema = m.schema;
  fields = m.fields;
  static_fields = m.static_fields;
  initial = m.initial;
  initial_statics = m.initial_statics;
}

-- no more than this is asked of a code
asks_alike : (m n : Meaning) (q : Question) → may_ask (with_data m n) q ≡ may_ask m q
unfolding may_ask
asks_alike m n q = refl

pub asked_alike : (program : Program) → Typed program → length program.schema.classes ≤ 1024 →
    ((class : ℕ) → data_size program class ≡ sum_by (field_width program) (fields program class)) → (q : Question) → may_ask (machine.code_of (image_of program)) q ≡ may_ask (language.code_of program) q
asked_alike program typed few sums q = sym (asks_alike m n q) ∙ ap (λ (x : Meaning). may_ask x q) same
  where
    m : Meaning
    m = machine.code_of (image_of program)

    n : Meaning
    n = language.code_of program

    fields_same : m.fields ≡ n.fields
    fields_same = fun_ext (class_shapes program typed)

    initial_same : m.initial ≡ n.initial
    initial_same = fun_ext (initial_everywhere program typed sums)

    same : with_data m n ≡ n
    same = λ i. record {
      schema = schema_back program typed few i;
      fields = fields_same i;
      slot_field = n.slot_field;
      static_fields = static_shapes program i;
      initial = initial_same i;
      initial_statics = initial_statics_are program typed sums i;
      data_size = n.data_size;
      root = n.root;
    }
