use Rattle.std.proofs.Common.{◌≡◌, ◌+◌, ◌≤◌, min, drop}
use Rattle.scode_emit.specs.Lists.{block_size}
use Rattle.scode_emit.specs.Rows.{seen}
use Rattle.scode_emit.proofs.sizes.+stmt_sizes.Given as goal

abbrev pub invariant-block_size-loop-s : goal.invariant-block_size-loop-s
invariant-block_size-loop-s l = record {
  small : l.sum ≤ 65536;
  total : min (l.sum + block_size (seen l.site) (drop l.s-index l.all)) 65536 ≡ min (block_size (seen l.site) l.all) 65536;
}
