-- What a message does in its session.
use Rattle.std.specs.Prelude.{ℕ, ℤ, Bool, true, false, ◌&&◌, ◌||◌, nat_eq, is_some, Option, Some, None, List, [], ◌∷◌}
use Rattle.std.specs.Prelude.{if◌then◌else◌}
use Rattle.std.specs.Option.{option_map_or}
use Rattle.std.specs.Cmp.Lexicographic.{pointwise}
use Rattle.dasp_session.specs.declared.user.User.{User}
use Rattle.dasp_session.specs.Digest.{digest_of}
use Rattle.dasp_session.specs.UsersFile.{credential_of}
use Rattle.dasp_msg.specs.declared.receiver.Taken.{Taken}
use Rattle.dasp_msg.specs.declared.receiver.Taken.TheVariants.{New, Repeat, Outside}
use Rattle.dasp_msg.specs.Posted.{has_room, after_acks}
use Rattle.dasp_msg.specs.TakenIndexes.{taken_as, after_take}
use Rattle.dasp_msg.specs.declared.kind.MsgKind.{MsgKind}
use Rattle.dasp_msg.specs.declared.kind.MsgKind.TheVariants.{Hello, Challenge, Authenticate, Welcome, KeepAlive}
use Rattle.dasp_msg.specs.declared.kind.MsgKind.TheVariants.{Datagram, Close}
use Rattle.dasp_msg.specs.Shown.{Message}
use Rattle.dasp_session.specs.Closing.{not_known}
use Rattle.dasp_session.specs.Letters.{welcome, close}
use Rattle.dasp_session.specs.Session.{Session}

-- what a step of a session hands to what stands above
pub data Effect : Type 0 where
  nothing : Effect
  ended : Effect
  delivers : List ℕ → Effect

-- what becomes of a session, and what is sent to its address
pub record Step : Type 0 where
  pub session : Option Session
  pub says : List Message
  pub effect : Effect

-- it goes on, and gives no answer
abbrev pub silent : Session → Step
silent session = record { session = Some session; says = []; effect = nothing }

-- it ends, with or without an answer
abbrev pub ends : List Message → Step
ends says = record { session = None; says = says; effect = ended }

-- each message of a session renews the hearing, and its ack counts before anything else is looked at
abbrev pub hears : ℤ → Message → Session → Session
hears moment message session = record session {
  heard = moment;
  posted = after_acks session.posted message.ack message.ack_more;
}

-- a known user, and the digest of its credential and the nonce
abbrev pub is_proof : List User → List ℕ → Option (List ℕ) → Option (List ℕ) → Bool
is_proof users nonce None digest = false
is_proof users nonce (Some name) None = false
is_proof users nonce (Some name) (Some digest) =
    option_map_or (λ credential. pointwise nat_eq (digest_of credential nonce) digest) (credential_of users name) false

abbrev pub is_authenticated : Session → Bool
is_authenticated session = is_some session.user

-- an authenticated session goes on without an answer, and another one ends
abbrev pub refused : Session → Step
refused session =
    if is_authenticated session then silent session else ends (close session.remote_id (Some not_known) ∷ [])

abbrev pub authenticated : List User → Message → Session → Step
authenticated users message session =
    if is_proof users session.nonce message.username message.digest
    then record {
      session = Some (record session { user = message.username });
      says = welcome session.remote_id ∷ [];
      effect = nothing;
    }
    else refused session

-- a message that is new is taken and handed on; a repeat makes an acknowledgement owed
abbrev pub taken_in : Taken → Message → Session → Step
taken_in New message session = record {
  session = Some (record session { taken = after_take session.taken message.sequence });
  says = [];
  effect = delivers message.payload;
}
taken_in Repeat message session = silent (record session { owed = true })
taken_in Outside message session = silent session

-- it counts only where the session is authenticated and has room for an answer
abbrev pub delivered : Message → Session → Step
delivered message session =
    if is_authenticated session && has_room session.posted
    then taken_in (taken_as session.taken message.sequence) message session
    else silent session

-- a keepAlive makes an acknowledgement owed in an authenticated session
abbrev pub kept_alive : Session → Step
kept_alive session = silent (record session { owed = session.owed || is_authenticated session })

-- what a message of a kind does, once it was heard; other kinds have no place in a session
abbrev pub answered : MsgKind → List User → Message → Session → Step
answered Hello users message session = silent session
answered Challenge users message session = silent session
answered Authenticate users message session = authenticated users message session
answered Welcome users message session = silent session
answered KeepAlive users message session = kept_alive session
answered Datagram users message session = delivered message session
answered Close users message session = ends []

abbrev pub in_session : List User → ℤ → Message → Session → Step
in_session users moment message session = answered message.kind users message (hears moment message session)
