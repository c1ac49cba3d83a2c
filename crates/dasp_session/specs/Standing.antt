-- What the sessions of a node stand for, and what may be asked of them.
use Rattle.std.specs.Prelude.{◌≡◌, ◌≤◌, ℕ, Bool, true, false, ◌&&◌, is_some, nat_lt, List, length, slice_get, drop}
use Rattle.std.specs.Prelude.{Option, Some, None}
use Rattle.std.specs.Option.{option_map_or}
use Rattle.dasp_msg.specs.Message.{IsMessage, IsMalformed}
use Rattle.dasp_msg.specs.Shown.{Message}
use Rattle.dasp_session.specs.declared.handed.Handed.{Handed}
use Rattle.dasp_session.specs.declared.handed.Handed.TheVariants.{Nothing, Ended, Payload}
use Rattle.dasp_session.specs.declared.sessions.Sessions.{Sessions}
use Rattle.dasp_session.specs.Keeping.{AllHold}
use Rattle.dasp_session.specs.Outbox.{Datagram, Sends}
use Rattle.dasp_session.specs.Receive.{Outcome, Handing, none, ended_at, payload_at}
use Rattle.dasp_session.specs.Session.{State}

pub record StandsFor (sessions : Sessions) (state : State) : Type 0 where
  pub users : sessions.users ≡ state.users
  pub secret : sessions.secret ≡ state.secret
  pub made : sessions.made ≡ state.made
  pub moment : sessions.moment ≡ state.moment
  pub places : AllHold 0 sessions.places.items state.sessions

-- the sessions stand for the outcome's state, and the texts of its letters were put into the outbox
pub record Leaves (outcome : Outcome) (sessions : Sessions) (before after : List Datagram) : Type 0 where
  pub state : StandsFor sessions outcome.state
  pub sent : Sends outcome.letters before after

-- bytes are this message, or none
abbrev pub IsRead : List ℕ → Option Message → Type 0
IsRead bytes None = IsMalformed bytes
IsRead bytes (Some message) = IsMessage bytes message

-- what a call hands on, of bytes in which a payload stands from a place on
abbrev pub Hands : List ℕ → Handing → Handed → Type 0
Hands bytes none handed = handed ≡ Nothing
Hands bytes (ended_at place) handed = handed ≡ Ended place
Hands bytes (payload_at place payload) handed =
    (at : ℕ) × (handed ≡ Payload place at) × (at ≤ length bytes) × (drop at bytes ≡ payload)

-- the same, where the payload is that of a message and begins at this byte
abbrev pub IsHanded : ℕ → List ℕ → Handing → Handed → Type 0
IsHanded at payload none handed = handed ≡ Nothing
IsHanded at payload (ended_at place) handed = handed ≡ Ended place
IsHanded at payload (payload_at place bytes) handed = (handed ≡ Payload place at) × (payload ≡ bytes)

-- whether a session lives in a place
abbrev pub is_live : Sessions → ℕ → Bool
is_live sessions place = option_map_or (λ kept. kept.live) (slice_get sessions.places.items place) false

-- whether it is authenticated too
abbrev pub is_open : Sessions → ℕ → Bool
is_open sessions place =
    option_map_or (λ kept. kept.live && is_some kept.user) (slice_get sessions.places.items place) false

-- whether a message may be posted in it
abbrev pub may_post : Sessions → ℕ → Bool
may_post sessions place =
    option_map_or (λ kept. kept.live && is_some kept.user && nat_lt (length kept.sender.messages) 31)
    (slice_get sessions.places.items place) false

-- how many messages stand in it from the first one on that is not acknowledged
abbrev pub waiting : Sessions → ℕ → ℕ
waiting sessions place =
    option_map_or (λ kept. length kept.sender.messages) (slice_get sessions.places.items place) 0

abbrev pub is_ended : Handing → Bool
is_ended none = false
is_ended (ended_at place) = true
is_ended (payload_at place bytes) = false
