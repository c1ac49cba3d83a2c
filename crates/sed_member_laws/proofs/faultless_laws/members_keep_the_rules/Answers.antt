use Rattle.sed_member_laws.proofs.Own.{member_kept}
use Rattle.sed_member_laws.proofs.faultless_laws.members_keep_the_rules.Goals as goal

pub returns : goal.returns
returns c = member_kept
