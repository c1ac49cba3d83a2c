use Rattle.scode_whole.proofs.Whole.{whole_but_for_roots}
use Rattle.scode_whole.proofs.laws.verified_images_are_whole_but_for_roots.Goals as goal

pub returns : goal.returns
returns c = whole_but_for_roots
