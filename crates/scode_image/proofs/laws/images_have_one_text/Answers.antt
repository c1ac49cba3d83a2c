use Rattle.scode_image.proofs.Images.{one_text, one_image}
use Rattle.scode_image.proofs.laws.images_have_one_text.Goals as goal

pub returns-clause-text : goal.returns-clause-text
returns-clause-text c = one_text

pub returns-clause-image : goal.returns-clause-image
returns-clause-image c = one_image
