use Rattle.std.proofs.Common.{◌≡◌, [], drop}
use Rattle.scode_entries.specs.EntryLists.{with_entries}
use Rattle.scode_entries.proofs.entries.entries_of.Given as goal

abbrev pub invariant-loop-mark : goal.invariant-loop-mark
invariant-loop-mark l = with_entries l.locals l.entries.items (drop l.mark-index l.marks) ≡ with_entries l.locals [] l.marks
