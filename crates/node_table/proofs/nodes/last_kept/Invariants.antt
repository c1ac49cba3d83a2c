use Rattle.std.proofs.Common.{ℕ, ◌≡◌, ◌≤◌, None, length, slice_index_or}
use Rattle.node_table.proofs.nodes.last_kept.Given as goal

-- from this place on none has a key
abbrev pub invariant-loop-id : goal.invariant-loop-id
invariant-loop-id l = (l.id ≤ length l.index) × ((k : ℕ) → l.id ≤ k → slice_index_or l.index k None ≡ None)

abbrev pub decreases-loop-id : goal.decreases-loop-id
decreases-loop-id l = l.id
