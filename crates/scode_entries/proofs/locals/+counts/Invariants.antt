use Rattle.std.proofs.Common.{◌≡◌, ◌≤◌, ◌+◌, min, length, drop}
use Rattle.scode_entries.specs.LocalLists.{block_kinds}
use Rattle.scode_entries.proofs.locals.+counts.Given as goal

abbrev pub invariant-count_all_declared-loop-s : goal.invariant-count_all_declared-loop-s
invariant-count_all_declared-loop-s l = record {
  small : l.sum ≤ 256;
  total : min (l.sum + length (block_kinds (drop l.s-index l.all))) 256 ≡ min (length (block_kinds l.all)) 256;
}
