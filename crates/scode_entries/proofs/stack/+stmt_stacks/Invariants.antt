use Rattle.std.proofs.Common.{◌≡◌, ◌≤◌, max, min, drop}
use Rattle.scode_entries.specs.StackLists.{block_stack}
use Rattle.scode_entries.proofs.stack.+stmt_stacks.Given as goal

abbrev pub invariant-block_stack-loop-s : goal.invariant-block_stack-loop-s
invariant-block_stack-loop-s l = record {
  within : l.most ≤ 65536;
  total : min (max l.most (block_stack (drop l.s-index l.all))) 65536 ≡ min (block_stack l.all) 65536;
}
