use Rattle.std.proofs.Common.{get_or}
use Rattle.scode_gen.specs.Generated.{image_layout}
use Rattle.scode_made.proofs.Small.{numbers_small}
use Rattle.scode_made.proofs.Whole.{whole_made}
use Rattle.scode_made.proofs.laws.images_are_made.Goals as goal

pub returns : goal.returns
returns c program typed spelled cases short =
    let laid = c.typed_programs_are_laid.ensures.laid program typed in
    let small = numbers_small program typed spelled laid in
    whole_made program typed laid (c.typed_programs_are_laid.ensures.tabled program typed)
    (λ i d lt. c.code_exists.ensures program (image_layout program) (get_or program.methods i d) small (typed.methods i d lt) (cases i d lt) (short i d lt))
