use Rattle.std.proofs.Common.{◌≡◌, ℕ, ◌<◌, get_or, vec_len, vec_capacity}
use Rattle.scode_mem.proofs.start.all_places.Given as goal

abbrev pub invariant-loop-place : goal.invariant-loop-place
invariant-loop-place l = record {
  as_many : vec_len l.places ≡ l.place;
  room : vec_capacity l.places ≡ 4096;
  each : (k : ℕ) → k < l.place → get_or l.places.items k 0 ≡ k;
}
