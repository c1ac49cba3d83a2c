use Rattle.std.proofs.Common.{◌≡◌, map, take}
use Rattle.scode_vm.specs.Calling.{zero_cell}
use Rattle.scode_engine.proofs.rooms.zero_cells.Given as goal

abbrev pub invariant-loop-kind : goal.invariant-loop-kind
invariant-loop-kind l = l.all.items ≡ map zero_cell (take l.kind-index l.kinds)
