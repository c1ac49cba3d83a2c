use Rattle.sed_node.proofs.Told.{told_entries}
use Rattle.sed_node.proofs.hearing.told_rounds_are_live_events.Goals as goal

pub returns : goal.returns
returns c = told_entries
