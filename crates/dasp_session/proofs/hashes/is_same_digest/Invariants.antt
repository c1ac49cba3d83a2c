use Rattle.std.proofs.Common.{◌≡◌, ℕ, ◌<◌, get_or}
use Rattle.dasp_session.proofs.hashes.is_same_digest.Given as goal

abbrev pub invariant-loop-place : goal.invariant-loop-place
invariant-loop-place l =
    (l.differing ≡ 0 → (k : ℕ) → k < l.place → get_or l.wanted k 0 ≡ get_or l.shown k 0)
    × (((k : ℕ) → k < l.place → get_or l.wanted k 0 ≡ get_or l.shown k 0) → l.differing ≡ 0)
