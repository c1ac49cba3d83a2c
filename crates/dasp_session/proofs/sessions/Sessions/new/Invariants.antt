use Rattle.std.proofs.Common.{◌≡◌, ◌≤◌, false, length, vec_len, vec_capacity}
use Rattle.std.specs.Prelude.{All}
use Rattle.dasp_session.proofs.sessions.Sessions.new.Given as goal

abbrev pub invariant-loop : goal.invariant-loop
invariant-loop l =
    All (λ place. place.live ≡ false) l.places.items × (length l.places.items ≡ l.counter)
    × (vec_len l.places ≡ l.counter) × (l.counter ≤ 16) × (vec_capacity l.places ≡ 16)
