use Rattle.std.proofs.Common.{◌≡◌, ◌++◌, drop}
use Rattle.scode_emit.specs.Code.{bytes_of}
use Rattle.scode_emit.proofs.bytes.bytes_of.Given as goal

abbrev pub invariant-loop-op : goal.invariant-loop-op
invariant-loop-op l = l.bytes.items ++ bytes_of (drop l.op-index l.ops) ≡ bytes_of l.ops
