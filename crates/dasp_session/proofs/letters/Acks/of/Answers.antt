use Rattle.std.proofs.Common.{ℕ, Bool, cond, List, ◌∙◌, ap}
use Rattle.std.specs.Prelude.{Some, None}
use Rattle.dasp_msg.specs.TakenIndexes.{is_ahead}
use Rattle.dasp_session.proofs.AckLemmas.{bytes-above}
use Rattle.dasp_session.proofs.letters.Acks.of.Goals as goal

pub returns-clause-more : goal.returns-clause-more
returns-clause-more c = λ taken like.
    c.bytes_if.ensures.value
    ∙ ap (λ (said : Bool). cond said (Some c.ack-number.result.1) None) (c.is_ahead.ensures taken like)
    ∙ ap (λ (bytes : List ℕ). cond (is_ahead taken) (Some bytes) None) (bytes-above taken c.ack-number.result.1 (c.ack-number.ensures.more taken like) c.bytes_if.ensures.bytes)
