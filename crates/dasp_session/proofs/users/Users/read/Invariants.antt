use Rattle.std.proofs.Common.{◌≡◌, length, vec_capacity}
use Rattle.dasp_session.proofs.FileLemmas.{ReadSoFar}
use Rattle.dasp_session.proofs.users.Users.read.Given as goal

abbrev pub invariant-loop-left : goal.invariant-loop-left
invariant-loop-left l = ReadSoFar l.all.items l.left l.text × (vec_capacity l.all ≡ 64)

abbrev pub decreases-loop-left : goal.decreases-loop-left
decreases-loop-left l = length l.left
