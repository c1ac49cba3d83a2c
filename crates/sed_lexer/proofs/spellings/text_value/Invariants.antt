use Rattle.std.proofs.Common.{length, ◌-◌}
use Rattle.sed_lexer.specs.Spelled.{SpellsTo}
use Rattle.sed_lexer.proofs.spellings.text_value.Given as goal

abbrev pub invariant-read : goal.invariant-read
invariant-read l = SpellsTo l.inner l.at l.characters.items

abbrev pub decreases-read : goal.decreases-read
decreases-read l = length l.inner - l.at
