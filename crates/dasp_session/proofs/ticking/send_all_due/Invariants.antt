use Rattle.std.proofs.Common.{◌≡◌, ◌≤◌, ◌+◌, true, false, length}
use Rattle.std.specs.Prelude.{count_by}
use Rattle.std.specs.List.{list_any}
use Rattle.dasp_msg.specs.Posted.{is_due, is_spent}
use Rattle.dasp_session.specs.Doing.{Goes}
use Rattle.dasp_session.specs.Keeping.{Like}
use Rattle.dasp_session.specs.Session.{Session}
use Rattle.dasp_session.proofs.ticking.send_all_due.Given as goal

abbrev pub invariant-due : goal.invariant-due
invariant-due l =
    ((session : Session) → Like l.initial.place session → list_any (is_spent l.moment) session.posted ≡ false → Goes l.moment session l.place l.initial.out l.out)
    × (l.place.live ≡ true) × (l.place.user ≡ l.initial.place.user)
    × (length l.out + count_by (is_due l.moment) l.place.sender.messages ≤ length l.initial.out + length l.initial.place.sender.messages)
    × (length l.place.sender.messages ≡ length l.initial.place.sender.messages)

abbrev pub decreases-due : goal.decreases-due
decreases-due l = count_by (is_due l.moment) l.place.sender.messages
