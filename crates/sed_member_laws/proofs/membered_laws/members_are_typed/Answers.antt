use Rattle.sed_member_laws.proofs.MembersApart.{has_members}
use Rattle.sed_member_laws.proofs.membered_laws.members_are_typed.Goals as goal

pub returns : goal.returns
returns c = has_members c.virtual_names_are_counted.ensures
