use Rattle.sed_statements.proofs.Scopes.{local_stands}
use Rattle.sed_statements.proofs.laws.scopes_stand_with_one_more.Goals as goal

pub returns : goal.returns
returns c = local_stands
