use Rattle.std.proofs.Common.{◌≡◌, ◌+◌, ◌≤◌, min, drop}
use Rattle.scode_emit.specs.Sizes.{tests_size}
use Rattle.scode_emit.proofs.sizes.tests_size.Given as goal

abbrev pub invariant-loop-label : goal.invariant-loop-label
invariant-loop-label l = record {
  small : l.sum ≤ 65536;
  total : min (l.sum + tests_size (drop l.label-index l.labels)) 65536 ≡ min (tests_size l.labels) 65536;
}
