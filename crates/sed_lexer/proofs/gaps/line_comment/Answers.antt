use Rattle.std.proofs.Common.{sym, ap, ◌∙◌, List, ℕ, not, length, take_while}
use Rattle.sed_lexer.specs.Gaps.{is_line_end}
use Rattle.sed_lexer.proofs.GapLemmas.{line_found, no_line}
use Rattle.sed_lexer.proofs.gaps.line_comment.Goals as goal

pub returns-then-begins_line_comment : goal.returns-then-begins_line_comment
returns-then-begins_line_comment c =
    line_found c.args.text.now c.line_bytes.result (sym c.if-begins_line_comment.ensures)
    (c.line_bytes.ensures ∙ ap (λ (x : List ℕ). length (take_while (λ b. not (is_line_end b)) x)) c.rest_of.ensures)

pub returns-else-begins_line_comment : goal.returns-else-begins_line_comment
returns-else-begins_line_comment c = no_line c.args.text.now (sym c.if-begins_line_comment.ensures)
