use Rattle.std.proofs.Common.{◌≡◌, ◌++◌, take}
use Rattle.std.specs.Prelude.{filter}
use Rattle.sed_layout.specs.TableSteps.{is_new}
use Rattle.sed_layout.proofs.tables.push_new.Given as goal

abbrev pub invariant-loop-number : goal.invariant-loop-number
invariant-loop-number l = l.table.items ≡ l.fn.table.items ++ filter (is_new l.program l.inherited) (take l.number-index l.own)
