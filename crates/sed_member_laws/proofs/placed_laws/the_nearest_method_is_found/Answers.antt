use Rattle.sed_member_laws.proofs.Found.{find_is}
use Rattle.sed_member_laws.proofs.placed_laws.the_nearest_method_is_found.Goals as goal

pub returns : goal.returns
returns c = find_is
