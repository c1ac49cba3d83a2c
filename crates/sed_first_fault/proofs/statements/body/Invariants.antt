use Rattle.std.proofs.Common.{◌≡◌, drop}
use Rattle.sed_first_fault.specs.Nodes.{noted_in_all}
use Rattle.sed_first_fault.proofs.statements.body.Given as goal

abbrev pub invariant-loop-s : goal.invariant-loop-s
invariant-loop-s l = noted_in_all l.notes (drop l.s-index l.all) ≡ noted_in_all l.initial.notes l.all
