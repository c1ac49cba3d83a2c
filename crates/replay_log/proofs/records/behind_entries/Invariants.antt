use Rattle.std.proofs.Common.{length}
use Rattle.replay_log.proofs.RecordLemmas.{IsBehind}
use Rattle.replay_log.proofs.records.behind_entries.Given as goal

abbrev pub invariant-entries : goal.invariant-entries
invariant-entries l = IsBehind l.fn.bytes l.left

abbrev pub decreases-entries : goal.decreases-entries
decreases-entries l = length l.left
