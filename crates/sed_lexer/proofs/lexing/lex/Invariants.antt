use Rattle.std.proofs.Common.{length, ◌-◌}
use Rattle.sed_lexer.specs.Cutting.{IsCut}
use Rattle.sed_lexer.proofs.lexing.lex.Given as goal

abbrev pub invariant-loop-place : goal.invariant-loop-place
invariant-loop-place l = IsCut l.text l.spans.items l.place.at l.place.first

abbrev pub decreases-loop-place : goal.decreases-loop-place
decreases-loop-place l = length l.text - l.place.at
