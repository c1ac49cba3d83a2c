use Rattle.scode_image.proofs.Images.{some_answer, never_both, one_fault}
use Rattle.scode_image.proofs.laws.bytes_are_an_image_or_fault.Goals as goal

pub returns-clause-some : goal.returns-clause-some
returns-clause-some c = some_answer

pub returns-clause-never_both : goal.returns-clause-never_both
returns-clause-never_both c = never_both

pub returns-clause-one : goal.returns-clause-one
returns-clause-one c = one_fault
