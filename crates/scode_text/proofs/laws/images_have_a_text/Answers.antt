use Rattle.scode_gen.specs.Generated.{image_layout}
use Rattle.scode_text.proofs.Counted.{IsCounted}
use Rattle.scode_text.proofs.Whole.{has_text}
use Rattle.scode_text.proofs.laws.images_have_a_text.Goals as goal

pub returns : goal.returns
returns c program typed spelled short =
    let counts : IsCounted program = record {
      few_classes = c.numbers_are_small.ensures.classes program typed;
      few_methods = c.numbers_are_small.ensures.methods program typed;
      sums = c.data_is_the_sum_of_fields.ensures program typed;
      wide = c.fields_take_bytes.ensures.fields program typed;
      statics_wide = c.fields_take_bytes.ensures.statics program typed;
      names = c.tables_have_each_virtual_method.ensures.names program typed;
      stand = c.tables_hold_virtual_methods.ensures program typed;
    } in
    has_text program typed spelled counts
    (λ m le. record {
      short = le;
      bytes = c.code_has_its_size.ensures.methods program (image_layout program) m;
      stack = c.stacks_are_no_longer_than_code.ensures program (image_layout program) m;
      ascend = c.entries_ascend.ensures.ascend program (image_layout program) m;
    })
    short
