use Rattle.app_writer.proofs.SmallApp.{small}
use Rattle.app_writer.proofs.laws.the_app_is_small.Goals as goal

pub returns : goal.returns
returns c = small
