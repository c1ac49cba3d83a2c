-- A rule that stands several times in a row.
use Rattle.std.specs.Prelude.{Bool, List, length}
use Rattle.sed_lexer.specs.Token.{Token}
use Rattle.sed_parser.specs.Phrase.{Many}
use Rattle.sed_parser.specs.Reading.{many_at}
use Rattle.sed_parser.specs.Rule.{Rule}
use Rattle.sed_parser.specs.ManyFacts.{many_sound, many_whole, many_left, many_stuck, few}

-- items up to where none is wanted
abbrev pub many : {A : Type 0} → (List Token → Bool) → Rule A → Rule (List A)
many go item = record {
  holds = Many go item.holds;
  reads = λ tokens. many_at go item.reads (length tokens) tokens;
  sound = λ tokens xs rest e. (many_sound go item (length tokens) tokens xs rest e).0;
  whole = λ tokens xs rest h. many_whole go item (length tokens) tokens xs rest (h, few go item xs tokens rest h);
  left = λ tokens xs rest h. many_left go item xs tokens rest h;
  stuck = λ tokens rest e. many_stuck go item (length tokens) tokens rest e;
}
