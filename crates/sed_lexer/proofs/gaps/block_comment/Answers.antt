use Rattle.std.proofs.Common.{sym, ◌∙◌, codes, subst, List, ℕ}
use Rattle.sed_lexer.specs.Fronts.{StandsFirst}
use Rattle.sed_lexer.proofs.FrontLemmas.{starts_text}
use Rattle.sed_lexer.proofs.GapLemmas.{block_found}
use Rattle.sed_lexer.proofs.gaps.block_comment.Goals as goal

pub returns : goal.returns
returns c =
    block_found c.args.text.now c.in_ok-end.end (starts_text c.args.text.now (codes "/*") (sym c.starts_with.ensures.value ∙ c.if-not-starts_with.false))
    (subst (λ (x : List ℕ). StandsFirst (codes "*/") x c.in_ok-end.end) c.rest_of.ensures c.in_ok-end.ensures)
