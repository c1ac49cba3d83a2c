-- What the calls of the sessions do: to the sessions, to the outside, and what they hand on.
use Rattle.std.specs.Prelude.{ℕ, ◌+◌, ◌*◌, ◌%◌, ℤ, Bool, true, false, ◌==◌, not, nat_eq, Option, Some, None, List, []}
use Rattle.std.specs.Prelude.{◌∷◌, slice_set, replicate, codes, if◌then◌else◌}
use Rattle.std.specs.Int.{int_max}
use Rattle.std.specs.Option.{option_map_or}
use Rattle.std.specs.Cmp.Lexicographic.{pointwise}
use Rattle.sed_outside.specs.declared.addr.Addr.{Addr}
use Rattle.dasp_session.specs.declared.user.User.{User}
use Rattle.dasp_session.specs.Digest.{nonce_of}
use Rattle.dasp_msg.specs.declared.kind.MsgKind.{MsgKind}
use Rattle.dasp_msg.specs.declared.kind.MsgKind.TheVariants.{Hello}
use Rattle.dasp_msg.specs.Shown.{Message}
use Rattle.dasp_session.specs.Closing.{other_version, too_many, other_digest}
use Rattle.dasp_session.specs.Hearing.{Effect, nothing, ended, delivers, Step, in_session}
use Rattle.dasp_session.specs.Letters.{Letter, addressed, challenge, close}
use Rattle.dasp_session.specs.Looking.{Found, found_from, free_from, is_session_of, is_waiting_for, session_at}
use Rattle.dasp_session.specs.Session.{Session, State}
use Rattle.dasp_session.specs.Ticking.{ticked, posted_in, kept_up}

-- nothing, the place of a session that ended, or a payload and the place of its session
pub data Handing : Type 0 where
  none : Handing
  ended_at : ℕ → Handing
  payload_at : ℕ → List ℕ → Handing

pub record Outcome : Type 0 where
  pub state : State
  pub letters : List Letter
  pub handing : Handing

-- nothing changes, and nothing is sent
abbrev pub stays : State → Outcome
stays state = record { state = state; letters = []; handing = none }

-- one answer, and nothing changes
abbrev pub answers : State → Addr → Message → Outcome
answers state from message = record {
  state = state;
  letters = addressed from (message ∷ []);
  handing = none;
}

abbrev pub handed_at : ℕ → Effect → Handing
handed_at place nothing = none
handed_at place ended = ended_at place
handed_at place (delivers bytes) = payload_at place bytes

-- the step of one session
abbrev pub steps : State → Found → Step → Outcome
steps state found step = record {
  state = record state { sessions = slice_set state.sessions found.place step.session };
  letters = addressed found.session.address step.says;
  handing = handed_at found.place step.effect;
}

-- A HELLO

-- a session's id says its place
abbrev pub id_of : ℕ → ℕ → ℕ
id_of made place = made % 4095 * 16 + place

abbrev pub new_session : State → Addr → ℕ → ℕ → Session
new_session state from remote_id place = record {
  id = id_of state.made place;
  address = from;
  remote_id = remote_id;
  nonce = nonce_of state.secret state.made;
  user = None;
  heard = state.moment;
  taken = [];
  owed = false;
  posted = [];
}

abbrev pub challenge_of : Session → Message
challenge_of session = challenge session.remote_id session.id session.nonce

-- in the least free place, if there is one
abbrev pub made_at : State → Addr → ℕ → Option ℕ → Outcome
made_at state from remote_id None = answers state from (close remote_id (Some too_many))
made_at state from remote_id (Some place) = record {
  state = record state {
    made = state.made + 1;
    sessions = slice_set state.sessions place (Some (new_session state from remote_id place));
  };
  letters = addressed from (challenge_of (new_session state from remote_id place) ∷ []);
  handing = none;
}

-- a session that waits to be authenticated gets its challenge again
abbrev pub challenged : State → Addr → ℕ → Option Found → Outcome
challenged state from remote_id (Some found) = answers state from (challenge_of found.session)
challenged state from remote_id None =
    if state.made == 4294967295 then answers state from (close remote_id (Some too_many))
    else made_at state from remote_id (free_from 0 state.sessions)

-- SHA-1 is meant where no algorithm is named
abbrev pub is_sha_1 : Option (List ℕ) → Bool
is_sha_1 algorithm = option_map_or (λ name. pointwise nat_eq name (codes "SHA-1")) algorithm true

-- the tests of a hello, in their order
abbrev pub greeted : State → Addr → ℕ → ℕ → Option (List ℕ) → Outcome
greeted state from version remote_id algorithm =
    if not (version == 0x0100) then answers state from (close remote_id (Some other_version))
    else (if not (is_sha_1 algorithm) then answers state from (close remote_id (Some other_digest))
    else challenged state from remote_id (found_from (is_waiting_for from remote_id) 0 state.sessions))

-- no hello is without a version and a remote id
abbrev pub hello : State → Addr → Option ℕ → Option ℕ → Option (List ℕ) → Outcome
hello state from None remote_id algorithm = stays state
hello state from (Some version) None algorithm = stays state
hello state from (Some version) (Some remote_id) algorithm = greeted state from version remote_id algorithm

-- ANY OTHER MESSAGE

-- it counts only in its session
abbrev pub in_found : State → Message → Option Found → Outcome
in_found state message None = stays state
in_found state message (Some found) = steps state found (in_session state.users state.moment message found.session)

abbrev pub told : State → Addr → Message → Outcome
told state from message = in_found state message (found_from (is_session_of message.to from) 0 state.sessions)

abbrev pub received_as : MsgKind → State → Addr → Message → Outcome
received_as Hello state from message = hello state from message.version message.remote_id message.algorithm
received_as kind state from message = told state from message

-- what is no message does nothing
abbrev pub received : State → Addr → Option Message → Outcome
received state from None = stays state
received state from (Some message) = received_as message.kind state from message

-- THE OTHER CALLS

abbrev pub new_state : List User → List ℕ → ℤ → State
new_state users secret moment = record {
  users = users;
  secret = secret;
  made = 0;
  moment = moment;
  sessions = replicate 16 None;
}

abbrev pub advanced : State → ℤ → State
advanced state moment = record state { moment = int_max state.moment moment }

-- a step of the session of a place
abbrev pub at_place : State → ℕ → (Session → Step) → Option Session → Outcome
at_place state place step None = stays state
at_place state place step (Some session) = steps state (record { place = place; session = session }) (step session)

abbrev pub tick_of : State → ℕ → Outcome
tick_of state place = at_place state place (ticked state.moment) (session_at state place)

abbrev pub post_of : State → ℕ → List ℕ → Outcome
post_of state place bytes = at_place state place (posted_in state.moment bytes) (session_at state place)

abbrev pub keep_of : State → ℕ → Outcome
keep_of state place = at_place state place kept_up (session_at state place)
