use Rattle.std.proofs.Common.{sym}
use Rattle.sed_value.specs.Characters.{is_word_byte}
use Rattle.sed_lexer.proofs.FrontLemmas.{is_word_lead, run_found}
use Rattle.sed_lexer.proofs.words.word.Goals as goal

pub returns-then-can_begin_word : goal.returns-then-can_begin_word
returns-then-can_begin_word c =
    rw c.in_ok-first.ensures.cases.0
    (run_found is_word_lead is_word_byte c.in_ok-first.first.now c.in_ok-first.others.now c.word_bytes.result (sym c.if-can_begin_word.ensures) c.word_bytes.ensures)
