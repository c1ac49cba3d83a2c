use Rattle.std.proofs.Common.{◌≡◌, ℕ, ◌+◌, drop}
use Rattle.dasp_msg.specs.Posted.{first_due}
use Rattle.dasp_msg.proofs.due.place_due.Given as goal

-- no message before the place is due
abbrev pub invariant-loop-place : goal.invariant-loop-place
invariant-loop-place l =
    (index : ℕ) → first_due l.now index l.messages.items ≡ first_due l.now (index + l.place) (drop l.place l.messages.items)
