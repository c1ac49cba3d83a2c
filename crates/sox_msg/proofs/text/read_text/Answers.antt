use Rattle.std.proofs.Common.{ℕ, List, Some, sym, ◌∙◌, ap}
use Rattle.sox_msg.specs.Forms.{text_at}
use Rattle.sox_msg.proofs.TextLemmas.{text_at-none, text_at-read}
use Rattle.sox_msg.proofs.text.read_text.Goals as goal

pub returns-in-Ok : goal.returns-in-Ok
returns-in-Ok c =
    let read = text_at-read _ _ _ c.in-Ok.ensures.found in
    ap (λ (r : List ℕ). Some (c.in-Ok.text.now, r)) c.rest.ensures ∙ sym read ∙ ap text_at c.new-reader.ensures

pub returns-in-Err : goal.returns-in-Err
returns-in-Err c =
    sym (text_at-none (λ text. text.now) _ _ _ _ c.in-Err.is c.str.ensures.again) ∙ ap text_at c.new-reader.ensures
