use Rattle.std.proofs.Common.{ap, length, refl, sym, ◌∙◌}
use Rattle.std.proofs.lemmas.List.{length-map}
use Rattle.sed_typed.specs.declared.schema.Schema.{Schema}
use Rattle.scode_code.specs.Tables.{class_of}
use Rattle.scode_gen.specs.Generated.{image_layout, image_of}
use Rattle.std.proofs.lemmas.Option.{slice_get-map}
use Rattle.std.specs.Option.{option_map}
use Rattle.scode_entries.specs.Method.{image_method}
use Rattle.scode_sound.proofs.Rules.{tables}
use Rattle.scode_fine.proofs.Images.{Known}
use Rattle.scode_fine.proofs.Whole.{none_breaks}
use Rattle.scode_fine.proofs.laws.generated_code_breaks_no_rule.Goals as goal

pub returns : goal.returns
returns c program typed spelled cases short agree =
    let layout = image_layout program in
    let image = image_of program in
    let made = c.images_are_made.ensures program typed spelled cases short in
    let schema = c.images_tell_the_schema.ensures program typed in
    let known : Known program layout image = record {
      typed = typed;
      few = c.numbers_are_small.ensures.classes program typed;
      schema = schema;
      tables = tables image agree;
      made = made;
      methods = λ n m at.
          slice_get-map (image_method program layout) program.methods n ∙ ap (option_map (image_method program layout)) at;
      classes = sym (length-map image.classes class_of) ∙ ap (λ (s : Schema). length s.classes) schema;
    } in
    (c.rules_are_broken_or_not.ensures image).1
    (none_breaks program layout image known c.instructions_stand_where_they_start.ensures.stands refl agree
    (λ n m at. (made.methods n m at).2.spelled))
