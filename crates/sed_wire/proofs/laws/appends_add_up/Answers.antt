use Rattle.sed_wire.proofs.WritingLemmas.{appends-none, appends-then}
use Rattle.sed_wire.proofs.laws.appends_add_up.Goals as goal

pub returns : goal.returns
returns c = record { two = appends-then; none = appends-none }
