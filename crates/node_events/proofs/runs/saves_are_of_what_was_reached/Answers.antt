use Rattle.node_events.proofs.Kept.{all_saved}
use Rattle.node_events.proofs.runs.saves_are_of_what_was_reached.Goals as goal

pub returns : goal.returns
returns c = all_saved
