-- What a call does in one place.
use Rattle.std.specs.Prelude.{◌≡◌, ℕ, ℤ, Bool, true, false, ◌&&◌, is_some, nat_lt, List, [], ◌++◌, length}
use Rattle.std.specs.List.{list_any}
use Rattle.dasp_msg.specs.Posted.{is_spent}
use Rattle.dasp_msg.specs.Shown.{Message}
use Rattle.dasp_session.specs.declared.handed.Effect.{Effect as Kept}
use Rattle.dasp_session.specs.declared.handed.Effect.TheVariants.{Nothing, Ended, Payload}
use Rattle.dasp_session.specs.declared.handed.Handed.{Handed}
use Rattle.dasp_session.specs.declared.handed.Handed.TheVariants.{Nothing as NothingAt, Ended as EndedAt}
use Rattle.dasp_session.specs.declared.handed.Handed.TheVariants.{Payload as PayloadAt}
use Rattle.dasp_session.specs.declared.place.Place.{Place}
use Rattle.dasp_session.specs.Hearing.{Effect, nothing, ended, delivers, Step}
use Rattle.dasp_session.specs.Keeping.{Holds, Like}
use Rattle.dasp_session.specs.Letters.{addressed}
use Rattle.dasp_session.specs.Outbox.{Datagram, Sends}
use Rattle.dasp_session.specs.Session.{Session}
use Rattle.dasp_session.specs.Ticking.{resends, resent}

-- the code's word for what is handed on, where the message has this payload
abbrev pub IsEffect : List ℕ → Effect → Kept → Type 0
IsEffect payload nothing effect = effect ≡ Nothing
IsEffect payload ended effect = effect ≡ Ended
IsEffect payload (delivers bytes) effect = (effect ≡ Payload) × (payload ≡ bytes)

-- the same of a place, and of a payload that begins at this byte
abbrev pub handed_as : Kept → ℕ → ℕ → Handed
handed_as Nothing place at = NothingAt
handed_as Ended place at = EndedAt place
handed_as Payload place at = PayloadAt place at

-- the place holds what becomes of the session, and what it says was put into the outbox
pub record Does (session : Session) (step : Step) (place : Place) (before after : List Datagram) : Type 0 where
  pub holds : Holds place step.session
  pub sent : Sends (addressed session.address step.says) before after

-- a message may be posted in the session that lives here
abbrev pub has_room_here : Place → Bool
has_room_here place = place.live && is_some place.user && nat_lt (length place.sender.messages) 31

abbrev pub resends_of : ℤ → Session → List Message
resends_of moment session = resends session.remote_id session.taken moment 0 session.posted

-- some of the messages that are due were sent again: what is to be sent in all, and what becomes of the session, is
-- these and what is due of the session that the place stands for now
pub record Goes (moment : ℤ) (session : Session) (place : Place) (before after : List Datagram) : Type 0 where
  pub now : Session
  pub sent : List Message
  pub like : Like place now
  pub put : Sends (addressed session.address sent) before after
  pub address : now.address ≡ session.address
  pub messages : resends_of moment session ≡ sent ++ resends_of moment now
  pub becomes : resent moment session ≡ resent moment now
  pub not_spent : list_any (is_spent moment) now.posted ≡ false

-- the first one was sent again, or none is due
abbrev pub Resends : ℤ → Session → Bool → Place → List Datagram → List Datagram → Type 0
Resends moment session true place before after = Goes moment session place before after
Resends moment session false place before after =
    Like place session × (before ≡ after) × (resends_of moment session ≡ []) × (resent moment session ≡ session)
