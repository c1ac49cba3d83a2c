-- What a session says may be sent.
use Rattle.std.specs.Prelude.{ℕ, ◌≤◌, List, [], ◌∷◌, length, ⊤}
use Rattle.std.specs.Option.{ForSome}
use Rattle.dasp_msg.specs.declared.outgoing.Message.{Message as Posted}
use Rattle.dasp_msg.specs.Sending.{CanGo}
use Rattle.dasp_session.specs.Letters.{Letter}
use Rattle.dasp_session.specs.Looking.{session_at}
use Rattle.dasp_session.specs.Receive.{Outcome}
use Rattle.dasp_session.specs.Session.{Session, State}

abbrev pub AreShort : List Posted → Type 0
AreShort [] = ⊤
AreShort (message ∷ later) = (length message.bytes ≤ 498) × AreShort later

-- its challenge fits a datagram, and so does each message that was posted
pub record CanSpeak (session : Session) : Type 0 where
  pub nonce : length session.nonce ≤ 10
  pub posted : AreShort session.posted

abbrev pub AllCanSpeak : State → Type 0
AllCanSpeak state = (place : ℕ) → ForSome (session_at state place) CanSpeak

abbrev pub AllCanGo : List Letter → Type 0
AllCanGo [] = ⊤
AllCanGo (letter ∷ later) = CanGo letter.message × AllCanGo later

-- each letter may be sent in one datagram, and whatever the sessions say next may be too
pub record Speaks (outcome : Outcome) : Type 0 where
  pub letters : AllCanGo outcome.letters
  pub sessions : AllCanSpeak outcome.state
