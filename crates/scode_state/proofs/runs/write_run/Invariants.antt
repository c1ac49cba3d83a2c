use Rattle.std.proofs.Common.{◌≡◌, take}
use Rattle.scode_mem.specs.Blocks.{with_bytes}
use Rattle.scode_state.proofs.runs.write_run.Given as goal

abbrev pub invariant-loop-i : goal.invariant-loop-i
invariant-loop-i l = l.pool ≡ with_bytes l.initial.pool l.b l.at (take l.i l.bytes)
