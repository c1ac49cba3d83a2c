use Rattle.node_events.proofs.Measured.{full_is, save_served}
use Rattle.node_events.proofs.saves.saves_are_measured.Goals as goal

pub returns-clause-save : goal.returns-clause-save
returns-clause-save c = save_served

pub returns-clause-full : goal.returns-clause-full
returns-clause-full c = full_is
