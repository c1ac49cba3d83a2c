use Rattle.std.proofs.Common.{◌≡◌, ◌++◌, drop}
use Rattle.scode_entries.specs.LocalLists.{block_kinds}
use Rattle.scode_entries.proofs.locals.+locals.Given as goal

abbrev pub invariant-push_all_declared-loop-s : goal.invariant-push_all_declared-loop-s
invariant-push_all_declared-loop-s l = l.kinds.items ++ block_kinds (drop l.s-index l.all) ≡ l.initial.kinds.items ++ block_kinds l.all
