use Rattle.scode_access.proofs.OnStrStores.{str_held}
use Rattle.scode_access.proofs.str_stores.strs_hold_bytes.Goals as goal

pub returns : goal.returns
returns c = str_held c.parts_are_read.ensures
