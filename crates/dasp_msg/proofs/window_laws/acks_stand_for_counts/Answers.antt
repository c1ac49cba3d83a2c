use Rattle.std.proofs.Common.{◌≡◌, ℕ, ◌+◌, ◌≤◌, leb, length, arith, leb-true}
use Rattle.std.specs.Prelude.{Some, None}
use Rattle.std.proofs.lemmas.Bool.{cond_both}
use Rattle.dasp_msg.specs.Numbers.{wire_number, distance}
use Rattle.dasp_msg.specs.Posted.{first_open, open_part, StandsForCount}
use Rattle.dasp_msg.proofs.NumberLemmas.{wire_number-distance}
use Rattle.dasp_msg.proofs.PostedLemmas.{length-open_part}
use Rattle.dasp_msg.proofs.window_laws.acks_stand_for_counts.Goals as goal

pub returns-clause-found : goal.returns-clause-found
returns-clause-found c = λ posted ack count.
    let first : ℕ = first_open posted in
    let beyond : ℕ = distance first (wire_number (ack + 1)) in
    cond_both (leb beyond (length (open_part posted))) (Some (first + beyond)) None (λ found. found ≡ Some count → StandsForCount posted ack count)
    (λ fits is.
    let same : first + beyond ≡ count = cc in
    let within : beyond ≤ length (open_part posted) = leb-true beyond (length (open_part posted)) fits in
    let numbered : wire_number (first + beyond) ≡ wire_number (ack + 1) = wire_number-distance first (ack + 1) in
    record {
      numbered = rw (← same) numbered;
      least = omega arith;
      most = omega (arith, length-open_part posted);
    })
    (λ other is. absurd (cc))
