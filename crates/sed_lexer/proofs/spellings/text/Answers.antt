use Rattle.std.proofs.Common.{sym, subst, List, ℕ}
use Rattle.sed_lexer.specs.Spelled.{EndsText}
use Rattle.sed_lexer.proofs.SpellingLemmas.{text_found}
use Rattle.sed_lexer.proofs.spellings.text.Goals as goal

pub returns : goal.returns
returns c =
    text_found c.args.text.now c.in_ok-end.end (sym c.if-not-begins_with.ensures)
    (subst (λ (x : List ℕ). EndsText x c.in_ok-end.end) c.rest_of.ensures c.in_ok-end.ensures)
