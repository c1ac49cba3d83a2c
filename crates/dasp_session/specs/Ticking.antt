-- What a tick does in a session, and what is posted in it.
use Rattle.std.specs.Prelude.{ℕ, suc, ℤ, pos, ◌+ℤ◌, int_le, Bool, false, ◌&&◌, ◌||◌, not, Some, List, [], ◌∷◌, length}
use Rattle.std.specs.Prelude.{map, if◌then◌else◌}
use Rattle.std.specs.List.{list_any}
use Rattle.dasp_msg.specs.declared.outgoing.Message.{Message as Posted}
use Rattle.dasp_msg.specs.Numbers.{wire_number}
use Rattle.dasp_msg.specs.Posted.{is_due, is_spent, sent_again, after_push}
use Rattle.dasp_msg.specs.Shown.{Message}
use Rattle.dasp_session.specs.Closing.{timed_out}
use Rattle.dasp_session.specs.Hearing.{Step, nothing, silent, ends}
use Rattle.dasp_session.specs.Letters.{close, datagram, keep_alive}
use Rattle.dasp_session.specs.Session.{Session}

-- more than 30 s went by since the last hearing
abbrev pub is_silent : ℤ → Session → Bool
is_silent moment session = not (int_le moment (session.heard +ℤ pos 30000000000))

-- or a message was sent three times, the last time at least 1 s ago, and is not acknowledged
abbrev pub is_over : ℤ → Session → Bool
is_over moment session = is_silent moment session || list_any (is_spent moment) session.posted

-- the messages that are due, in their order, where they begin with this index
abbrev pub resends : ℕ → List ℕ → ℤ → ℕ → List Posted → List Message
resends remote_id taken moment index [] = []
resends remote_id taken moment index (message ∷ later) =
    if is_due moment message
    then datagram remote_id taken (wire_number index) message.bytes ∷ resends remote_id taken moment (suc index) later
    else resends remote_id taken moment (suc index) later

abbrev pub again_if_due : ℤ → Posted → Posted
again_if_due moment message = if is_due moment message then sent_again moment message else message

-- a datagram message carries an acknowledgement, so that none is owed
abbrev pub resent : ℤ → Session → Session
resent moment session = record session {
  posted = map (again_if_due moment) session.posted;
  owed = session.owed && not (list_any (is_due moment) session.posted);
}

abbrev pub sent_all : ℤ → Session → Step
sent_all moment session = record {
  session = Some (resent moment session);
  says = resends session.remote_id session.taken moment 0 session.posted;
  effect = nothing;
}

abbrev pub ticked : ℤ → Session → Step
ticked moment session =
    if is_over moment session then ends (close session.remote_id (Some timed_out) ∷ []) else sent_all moment session

abbrev pub posted_in : ℤ → List ℕ → Session → Step
posted_in moment bytes session = record {
  session = Some (record session { posted = after_push session.posted bytes moment; owed = false });
  says = datagram session.remote_id session.taken (wire_number (length session.posted)) bytes ∷ [];
  effect = nothing;
}

-- one keepAlive where an acknowledgement is owed
abbrev pub kept_up : Session → Step
kept_up session =
    if session.owed
    then record {
      session = Some (record session { owed = false });
      says = keep_alive session.remote_id session.taken ∷ [];
      effect = nothing;
    }
    else silent session
