-- The fields of each class, and the statics, agree with their data.
use Rattle.std.proofs.Common.{◌≡◌, ℕ, List, length, ap, ◌∙◌}
use Rattle.std.specs.Prelude.{IsTrue, true}
use Rattle.std.specs.List.{list_all}
use Rattle.std.proofs.lemmas.List.Elements.{All-weaker}
use Rattle.sed_typed.specs.declared.program.Field.{Field}
use Rattle.sed_typed.specs.declared.program.Program.{Program}
use Rattle.sed_typed.specs.Classes.{fields}
use Rattle.sed_typed.specs.Sizes.{data_size}
use Rattle.sed_typed.specs.Typed.{Typed, statics_size}
use Rattle.sed_typed.specs.TypedSchema.{IsField, is_initial}
use Rattle.sed_layout.specs.Offsets.{offset_of, static_offset_of}
use Rattle.sed_layout.proofs.Inherited.{of_fields}
use Rattle.scode_image.specs.declared.image.ImageField.{ImageField}
use Rattle.scode_code.specs.TableRules.{bytes_fit, fields_agree, fields_lie_apart, n_is_of_form}
use Rattle.scode_code.specs.TableRules.{object_fields_are_there, objects_may_be_inline}
use Rattle.scode_gen.specs.FirstBytes.{first_bytes, object_bytes, static_bytes}
use Rattle.scode_gen.specs.Generated.{image_of}
use Rattle.scode_gen.specs.ImageFields.{class_fields, static_fields}
use Rattle.scode_made.proofs.FirstBytes.{fields_many, first_many, objects_many}
use Rattle.scode_agree.proofs.Fits.{class_fits, statics_fit}
use Rattle.scode_agree.proofs.Forms.{AreLaid, all_formed, lie_apart, objects_inline, objects_there}
use Rattle.scode_agree.proofs.Given.{IsGiven}
use Rattle.scode_agree.proofs.Tests.{five}

-- the static block begins with as many bytes as the statics take
pub statics_many : (program : Program) → Typed program → length (static_bytes program) ≡ statics_size program
statics_many program typed =
    fields_many (data_size program) (object_bytes program levels) (objects_many program typed levels) program.statics
    (All-weaker (IsField program) (λ (f : Field). IsTrue (is_initial f.form f.initial)) (λ f is. is.initial)
    program.statics typed.statics)
  where
    levels : ℕ
    levels = length program.schema.classes

module _ (program : Program) (is : IsGiven program) where
  class_laid : (class : ℕ) → AreLaid program (offset_of program class) (fields program class) (data_size program class)
  class_laid class = record {
    known = of_fields (IsField program) program is.typed.fields class;
    within = is.laid.within class;
    apart = is.laid.apart class;
  }

  statics_laid : AreLaid program (static_offset_of program) program.statics (statics_size program)
  statics_laid = record { known = is.typed.statics; within = is.laid.statics_within; apart = is.laid.statics_apart }

  pub class_fields_agree : (class : ℕ) → fields_agree (image_of program) (length (first_bytes program class))
      (class_fields program class) (first_bytes program class) ≡ true
  class_fields_agree class =
      let offset = offset_of program class in
      let all = fields program class in
      let size = data_size program class in
      let laid = class_laid class in
      let made : List ImageField = class_fields program class in
      five (object_fields_are_there (image_of program) made) (objects_may_be_inline (image_of program) made)
      (list_all n_is_of_form made)
      (fields_lie_apart (image_of program) (length (first_bytes program class)) made)
      (bytes_fit (image_of program) made (first_bytes program class))
      (objects_there program is offset all size laid)
      (objects_inline program is offset all size laid)
      (all_formed program is offset all size laid)
      (ap (λ (n : ℕ). fields_lie_apart (image_of program) n made) (first_many program is.typed class)
      ∙ lie_apart program is offset all size laid)
      (class_fits program is class)

  pub statics_agree : fields_agree (image_of program) (length (static_bytes program)) (static_fields program)
      (static_bytes program) ≡ true
  statics_agree =
      let offset = static_offset_of program in
      let all = program.statics in
      let size = statics_size program in
      let laid = statics_laid in
      let made : List ImageField = static_fields program in
      five (object_fields_are_there (image_of program) made) (objects_may_be_inline (image_of program) made)
      (list_all n_is_of_form made)
      (fields_lie_apart (image_of program) (length (static_bytes program)) made)
      (bytes_fit (image_of program) made (static_bytes program))
      (objects_there program is offset all size laid)
      (objects_inline program is offset all size laid)
      (all_formed program is offset all size laid)
      (ap (λ (n : ℕ). fields_lie_apart (image_of program) n made) (statics_many program is.typed)
      ∙ lie_apart program is offset all size laid)
      (statics_fit program is)
