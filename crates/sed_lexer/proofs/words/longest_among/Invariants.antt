use Rattle.std.proofs.Common.{take, map, IsTrue}
use Rattle.sed_lexer.specs.Words as words
use Rattle.sed_lexer.specs.Fronts.{FindsLongest}
use Rattle.sed_lexer.proofs.words.longest_among.Given as goal

abbrev pub invariant-loop-word : goal.invariant-loop-word
invariant-loop-word l = FindsLongest (λ bytes. IsTrue (words.is_among (map (λ word. word.now) (take l.word-index l.words)) bytes)) l.text l.longest
