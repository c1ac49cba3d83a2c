use Rattle.sed_member_laws.proofs.MembersTyped.{like_above}
use Rattle.sed_member_laws.proofs.overrides_laws.what_overrides_is_alike.Goals as goal

pub returns : goal.returns
returns c = like_above
