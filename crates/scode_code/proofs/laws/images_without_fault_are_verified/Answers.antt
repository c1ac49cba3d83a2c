use Rattle.scode_code.proofs.Converse.{verified_by_kinds}
use Rattle.scode_code.proofs.laws.images_without_fault_are_verified.Goals as goal

pub returns : goal.returns
returns c = verified_by_kinds
