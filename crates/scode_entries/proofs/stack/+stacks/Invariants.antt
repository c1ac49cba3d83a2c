use Rattle.std.proofs.Common.{◌≡◌, ◌+◌, ◌≤◌, max, min, drop}
use Rattle.scode_entries.specs.StackLists.{args_stack, behind_stack}
use Rattle.scode_entries.proofs.stack.+stacks.Given as goal

abbrev pub invariant-args_stack-loop-arg : goal.invariant-args_stack-loop-arg
invariant-args_stack-loop-arg l = record {
  small : l.depth ≤ 65536;
  within : l.most ≤ 65536;
  total : min (max l.most (l.depth + args_stack (drop l.arg-index l.args))) 65536 ≡ min (args_stack l.args) 65536;
}

abbrev pub invariant-links_stack-loop-link : goal.invariant-links_stack-loop-link
invariant-links_stack-loop-link l = record {
  within : l.most ≤ 65536;
  total : min (max l.most (behind_stack (drop l.link-index l.links))) 65536 ≡ min (behind_stack l.links) 65536;
}
