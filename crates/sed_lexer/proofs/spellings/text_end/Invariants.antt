use Rattle.std.proofs.Common.{ℕ, List, length, ◌-◌}
use Rattle.sed_lexer.specs.Spelled.{SpellsTo}
use Rattle.sed_lexer.proofs.spellings.text_end.Given as goal

abbrev pub invariant-loop-rest : goal.invariant-loop-rest
invariant-loop-rest l = (characters : List ℕ) × SpellsTo l.inner l.at characters

abbrev pub decreases-loop-rest : goal.decreases-loop-rest
decreases-loop-rest l = length l.inner - l.at
