use Rattle.std.proofs.Common.{◌≡◌, ◌++◌, map, take}
use Rattle.sed_layout.specs.TableSteps.{in_place_of}
use Rattle.sed_layout.proofs.tables.push_inherited.Given as goal

abbrev pub invariant-loop-number : goal.invariant-loop-number
invariant-loop-number l = l.table.items ≡ l.fn.table.items ++ map (in_place_of l.program l.own) (take l.number-index l.inherited)
