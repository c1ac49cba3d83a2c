use Rattle.std.proofs.Common.{◌≡◌, map, take}
use Rattle.scode_vm.specs.Calling.{zero_cell}
use Rattle.scode_engine.proofs.rooms.zeros_of_methods.Given as goal

abbrev pub invariant-loop-method : goal.invariant-loop-method
invariant-loop-method l = l.all.items ≡ map (λ m. map zero_cell m.locals) (take l.method-index l.methods)
