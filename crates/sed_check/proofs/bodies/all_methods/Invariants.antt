use Rattle.std.proofs.Common.{take}
use Rattle.std.specs.List.{enumerate_from, flat_map}
use Rattle.sed_program.specs.Methods.{methods_in}
use Rattle.sed_check.specs.Judgements.{AreJudged}
use Rattle.sed_check.proofs.bodies.all_methods.Given as goal

abbrev pub invariant-loop-number : goal.invariant-loop-number
invariant-loop-number l =
    AreJudged l.tables (flat_map (methods_in l.tables) (take l.number (enumerate_from 0 l.order))) l.bodies
