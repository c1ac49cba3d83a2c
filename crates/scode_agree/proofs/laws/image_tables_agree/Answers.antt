use Rattle.std.proofs.Common.{get_or}
use Rattle.scode_gen.specs.Generated.{image_layout}
use Rattle.scode_made.proofs.Small.{numbers_small}
use Rattle.scode_agree.proofs.Whole.{tables_made}
use Rattle.scode_agree.proofs.laws.image_tables_agree.Goals as goal

pub returns : goal.returns
returns c program typed spelled cases short =
    let laid = c.typed_programs_are_laid.ensures.laid program typed in
    let small = numbers_small program typed spelled laid in
    tables_made program
    (record {
      typed = typed;
      spelled = spelled;
      laid = laid;
      tabled = c.typed_programs_are_laid.ensures.tabled program typed;
      sums = c.data_is_the_sum_of_fields.ensures program typed;
      nearest = c.tables_have_each_virtual_method.ensures.nearest program typed;
      stand = c.tables_hold_virtual_methods.ensures program typed;
      ascend = c.entries_ascend.ensures.ascend program (image_layout program);
      sized = c.code_has_its_size.ensures.methods program (image_layout program);
      short = short;
      exist =
          λ i d lt. c.code_exists.ensures program (image_layout program) (get_or program.methods i d) small
          (typed.methods i d lt) (cases i d lt) (short i d lt);
    })
