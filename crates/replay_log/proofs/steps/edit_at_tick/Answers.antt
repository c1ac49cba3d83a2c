use Rattle.std.proofs.Common.{ℕ, ◌+◌, ◌*◌, ◌%◌, ◌∙◌, ap}
use Rattle.replay_log.specs.Generated.{edit}
use Rattle.replay_log.proofs.GeneratedLemmas.{edits-once}
use Rattle.replay_log.proofs.steps.edit_at_tick.Goals as goal

pub returns : goal.returns
returns c =
    edits-once c.args.components c.args.number c.draw.result c.draw-value.result (c.from.result * 100000000)
    c.in_turn.result _ _ _ _ _ (ap (λ (n : ℕ). n * 100000000) c.from.ensures) c.in_turn.ensures
    c.in_ok-wait.ensures.does c.wait.ensures.last c.draw.ensures.drawn c.draw.ensures.others
    c.draw-value.ensures.drawn c.draw-value.ensures.others
    (c.in_ok-ask.ensures.does (edit (1 + c.draw.result % c.args.components) c.args.number c.draw-value.result)
    c.in_ok-letter.ensures.letter (c.deref.ensures.value ∙ c.in_ok-letter.ensures.body))
    c.ask.ensures.last
