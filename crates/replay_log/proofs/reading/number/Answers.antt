use Rattle.std.proofs.Common.{ℕ, List, Some, refl, sym, ◌∙◌, ap}
use Rattle.replay_log.specs.Reading.{number_at}
use Rattle.replay_log.proofs.NumberLemmas.{number_at-read, number_at-short}
use Rattle.replay_log.proofs.reading.number.Goals as goal

pub returns-in-Ok : goal.returns-in-Ok
returns-in-Ok c =
    ap (λ (r : List ℕ). Some (c.in-Ok.number, r)) c.rest.ensures
    ∙ sym (number_at-read 2 _ _ _ c.in-Ok.ensures.found) ∙ ap (number_at 2) c.new-reader.ensures

pub returns-in-Err : goal.returns-in-Err
returns-in-Err c = sym (number_at-short 2 _ (c.in-Err.ensures.short.0 refl)) ∙ ap (number_at 2) c.new-reader.ensures
