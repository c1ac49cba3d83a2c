use Rattle.std.proofs.Common.{ℤ, ℕ, List, Some, refl, sym, ◌∙◌, ap}
use Rattle.std.proofs.lemmas.Int.{to_z-of_z}
use Rattle.std.specs.Int.{w64}
use Rattle.replay_log.specs.Reading.{moment_at}
use Rattle.replay_log.proofs.NumberLemmas.{moment_at-read, moment_at-short}
use Rattle.replay_log.proofs.reading.moment.Goals as goal

pub returns-in-Ok : goal.returns-in-Ok
returns-in-Ok c =
    let found = c.in-Ok.ensures.found in
    ap (λ (z : ℤ). Some (z, c.rest.result.now)) (to_z-of_z w64 c.in-Ok.ticks found.spelled.fits)
    ∙ ap (λ (r : List ℕ). Some (c.in-Ok.ticks, r)) c.rest.ensures
    ∙ sym (moment_at-read _ _ _ found) ∙ ap moment_at c.new-reader.ensures

pub returns-in-Err : goal.returns-in-Err
returns-in-Err c = sym (moment_at-short _ (c.in-Err.ensures.short.0 refl)) ∙ ap moment_at c.new-reader.ensures
