-- How a reply goes out.
use Rattle.std.specs.Prelude.{◌≡◌, ℕ, ℤ, false, Some, List, [], ◌∷◌, length}
use Rattle.sed_outside.specs.declared.addr.Addr.{Addr}
use Rattle.dasp_msg.specs.Shown.{Message}
use Rattle.dasp_msg.specs.Numbers.{wire_number}
use Rattle.dasp_msg.specs.Posted.{after_push}
use Rattle.dasp_msg.specs.TakenIndexes.{after_take}
use Rattle.dasp_session.specs.Hearing.{hears}
use Rattle.dasp_session.specs.Letters.{Letter, datagram}
use Rattle.dasp_session.specs.Looking.{Found, found_from, is_session_of, session_at}
use Rattle.dasp_session.specs.Session.{Session}
use Rattle.sox_msg.specs.Answered.{Answered, answered_text}
use Rattle.sox_msg.specs.Command.{number_in}
use Rattle.node_events.specs.Delivering.{Delivery}
use Rattle.node_events.specs.Node.{Node}

-- the session that has heard and taken a message
abbrev pub having_taken : ℤ → Message → Session → Session
having_taken moment message session =
    record (hears moment message session) { taken = after_take session.taken message.sequence }

-- and has then posted bytes
abbrev pub having_posted : ℤ → List ℕ → Session → Session
having_posted moment bytes session = record session { posted = after_push session.posted bytes moment; owed = false }

-- bytes that go out next in a session: to its address, with the number behind those of all that it has posted
abbrev pub next_letter : Session → List ℕ → Letter
next_letter session bytes = record {
  to = session.address;
  message = datagram session.remote_id session.taken (wire_number (length session.posted)) bytes;
}

-- once it has taken a message
abbrev pub reply_letter : Session → Message → List ℕ → Letter
reply_letter session message bytes =
    next_letter (record session { taken = after_take session.taken message.sequence }) bytes

-- the reply to the number of a message's payload
abbrev pub text_of_reply : Message → Answered → List ℕ
text_of_reply message reply = answered_text (number_in message.payload) reply

-- the message was taken in its session; its reply goes out, alone, and is the last that the session has posted
pub record IsReplied (n : Node) (from : Addr) (message : Message) (reply : Answered) (d : Delivery) : Type 0 where
  pub found : Found
  pub of_session : found_from (is_session_of message.to from) 0 n.sessions.sessions ≡ Some found
  pub sent : d.sent ≡ reply_letter found.session message (text_of_reply message reply) ∷ []
  pub posted :
      session_at d.node.sessions found.place
      ≡ Some (
      having_posted n.sessions.moment (text_of_reply message reply)
      (having_taken n.sessions.moment message found.session))
