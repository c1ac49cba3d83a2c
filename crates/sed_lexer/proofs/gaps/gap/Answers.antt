use Rattle.sed_lexer.proofs.GapLemmas.{line_is_longest}
use Rattle.sed_lexer.proofs.gaps.gap.Goals as goal

pub returns-in-Some-line_comment : goal.returns-in-Some-line_comment
returns-in-Some-line_comment c = line_is_longest c.args.text.now c.in-Some-line_comment.len c.in-Some-line_comment.ensures
