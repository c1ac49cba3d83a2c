use Rattle.std.proofs.Common.{◌≡◌, ◌++◌, map, drop}
use Rattle.scode_entries.specs.Entries.{cell_of}
use Rattle.scode_entries.proofs.locals.push_cells.Given as goal

abbrev pub invariant-loop-kind : goal.invariant-loop-kind
invariant-loop-kind l = l.kinds.items ++ map cell_of (drop l.kind-index l.all) ≡ l.initial.kinds.items ++ map cell_of l.all
