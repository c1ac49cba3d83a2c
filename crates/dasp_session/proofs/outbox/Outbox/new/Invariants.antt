use Rattle.std.proofs.Common.{◌≡◌, ◌≤◌, length, vec_len, vec_capacity}
use Rattle.dasp_session.proofs.outbox.Outbox.new.Given as goal

abbrev pub invariant-loop : goal.invariant-loop
invariant-loop l =
    (length l.datagrams.items ≡ l.counter) × (vec_len l.datagrams ≡ l.counter) × (l.counter ≤ 512)
    × (vec_capacity l.datagrams ≡ 512)
