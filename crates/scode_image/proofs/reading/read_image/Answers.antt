use Rattle.scode_image.proofs.Images.{outcome-image, outcome-fault}
use Rattle.scode_image.proofs.reading.read_image.Goals as goal

pub returns-clause-image : goal.returns-clause-image
returns-clause-image c = outcome-image c.args.bytes.now c.image_or_refusal.result c.image_or_refusal.ensures

pub returns-clause-fault : goal.returns-clause-fault
returns-clause-fault c = outcome-fault c.args.bytes.now c.image_or_refusal.result c.image_or_refusal.ensures
