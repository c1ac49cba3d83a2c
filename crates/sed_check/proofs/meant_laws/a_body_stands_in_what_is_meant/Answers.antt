use Rattle.sed_check.proofs.Inside.{stands}
use Rattle.sed_check.proofs.meant_laws.a_body_stands_in_what_is_meant.Goals as goal

pub returns : goal.returns
returns c = stands
