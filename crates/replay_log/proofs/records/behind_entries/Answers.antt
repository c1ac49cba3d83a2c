use Rattle.std.proofs.Common.{sym}
use Rattle.replay_log.proofs.RecordLemmas.{behind-end, behind-more, behind-start, shorter}
use Rattle.replay_log.proofs.records.behind_entries.Goals as goal

pub entries-init : goal.entries-init
entries-init c = behind-start _

pub entries-smaller : goal.entries-smaller
entries-smaller c = shorter _ _ _ (sym c.in-Some.ensures)

pub entries-preserved : goal.entries-preserved
entries-preserved c = behind-more _ _ _ _ c.entries.invariant (sym c.in-Some.ensures)

pub returns-in-None : goal.returns-in-None
returns-in-None c = behind-end _ _ c.entries.invariant (sym c.in-None.ensures)
