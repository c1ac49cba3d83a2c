use Rattle.sed_member_laws.proofs.Own.{names_once}
use Rattle.sed_member_laws.proofs.faultless_laws.names_stand_once.Goals as goal

pub returns : goal.returns
returns c = names_once
