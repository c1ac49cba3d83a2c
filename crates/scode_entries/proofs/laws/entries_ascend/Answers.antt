use Rattle.scode_entries.proofs.Entering as entering
use Rattle.scode_entries.proofs.laws.entries_ascend.Goals as goal

pub returns-clause-ascend : goal.returns-clause-ascend
returns-clause-ascend c program layout m = entering.entries_ascend program layout m

pub returns-clause-stand : goal.returns-clause-stand
returns-clause-stand c program layout m = entering.entries_stand program layout m

pub returns-clause-low : goal.returns-clause-low
returns-clause-low c program layout m = entering.entries_low program layout m
