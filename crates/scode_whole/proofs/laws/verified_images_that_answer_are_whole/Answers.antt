use Rattle.scode_code.specs.Image.{code_of}
use Rattle.scode_whole.proofs.Rule.{agrees}
use Rattle.scode_whole.proofs.Whole.{first_rule, tables_of}
use Rattle.scode_whole.proofs.laws.verified_images_that_answer_are_whole.Goals as goal

pub returns : goal.returns
returns c image h well =
    c.masked_codes_are_whole.ensures (code_of image) (tables_of image (agrees image (first_rule image h))) well
