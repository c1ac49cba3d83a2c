use Rattle.std.proofs.Common.{◌≡◌, length, take}
use Rattle.std.specs.Prelude.{IfSome}
use Rattle.scode_mem.specs.Blocks.{bytes_at, bytes_of}
use Rattle.scode_state.proofs.runs.read_run.Given as goal

abbrev pub invariant-loop-i : goal.invariant-loop-i
invariant-loop-i l = IfSome (bytes_of l.pool l.b) (λ bytes. take l.i l.into ≡ bytes_at bytes l.at l.i)
