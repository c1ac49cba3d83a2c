use Rattle.std.proofs.Common.{◌≡◌, ◌<◌, ◌∙◌, ap, length, subst, sym}
use Rattle.std.specs.Prelude.{is_some, slice_get}
use Rattle.std.specs.Option.{option_map}
use Rattle.sed_typed.specs.declared.schema.Schema.{Schema}
use Rattle.sed_typed.specs.Classes.{slots}
use Rattle.sed_engine.specs.Asked.{MayAsk}
use Rattle.sed_engine.specs.Code.{property_type}
use Rattle.sed_engine.specs.Program.{code_of}
use Rattle.scode_code.specs.Tables.{schema_of}
use Rattle.scode_gen.specs.Generated.{image_of}
use Rattle.scode_made.proofs.laws.verified_images_carry_their_programs.Goals as goal

pub returns : goal.returns
returns c program typed spelled cases short verified =
    let told = c.images_tell_the_data.ensures in
    let schema : schema_of (image_of program) ≡ program.schema = c.images_tell_the_schema.ensures program typed in record {
      schema = schema;
      fields = λ class h. told.fields program typed class;
      slot_fields = λ class slot some.
          told.slot_fields program typed class slot
          (ap (λ (s : Schema). is_some (property_type (option_map (λ x. x.form) (slice_get (slots s.classes class) slot)))) (sym schema) ∙ some);
      static_fields = told.static_fields program;
      initial = λ class h. told.initial program typed class;
      initial_statics = told.initial_statics program typed;
      sizes = λ class h. told.sizes program typed class (subst (λ (s : Schema). class < length s.classes) schema h);
      roots = λ q may.
          let asked : MayAsk (code_of program) q = sym (told.asked program typed q) ∙ may in
          c.compiled_roots_are_the_programs.ensures program q typed spelled cases short asked
          (λ number value method argument.
          let over = c.verified_calls_are_over.ensures (image_of program) q number value verified may (c.roots_run_the_same_methods.ensures program q typed asked ∙ method) argument in
          record { comes_to = over.called; is = over.over });
    }
