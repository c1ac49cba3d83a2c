-- Where a payload was taken, and what goes out then.
use Rattle.std.proofs.Common.{◌≡◌, ℕ, Bool, true, false, List, [], ◌∷◌, ◌++◌, length, get_or, refl, ◌∙◌, ap, arith}
use Rattle.std.specs.Prelude.{ℤ, ◌-◌, ◌==◌, ◌&&◌, not, Option, Some, None, slice_set, if◌then◌else◌}
use Rattle.sed_outside.specs.declared.addr.Addr.{Addr}
use Rattle.sed_engine.specs.Code.{Meaning}
use Rattle.dasp_msg.specs.declared.kind.MsgKind.{MsgKind}
use Rattle.dasp_msg.specs.declared.kind.MsgKind.TheVariants.{Hello, Challenge, Authenticate, Welcome, KeepAlive, Datagram, Close}
use Rattle.dasp_msg.specs.Shown.{Message}
use Rattle.dasp_session.specs.declared.user.User.{User}
use Rattle.dasp_msg.specs.declared.receiver.Taken.{Taken}
use Rattle.dasp_msg.specs.declared.receiver.Taken.TheVariants.{New, Repeat, Outside}
use Rattle.dasp_msg.specs.Numbers.{wire_number}
use Rattle.dasp_msg.specs.Posted.{has_room}
use Rattle.dasp_msg.specs.TakenIndexes.{after_take, taken_as}
use Rattle.dasp_session.specs.Closing.{not_known, other_digest, other_version, too_many}
use Rattle.dasp_session.specs.Hearing.{Effect, nothing, ended, delivers, Step, answered, ends, hears, in_session, is_authenticated, is_proof, refused, silent, taken_in}
use Rattle.dasp_session.specs.Letters.{Letter, addressed, close, datagram, welcome}
use Rattle.dasp_session.specs.Looking.{Found, found_from, free_from, is_session_of, is_waiting_for, session_at}
use Rattle.dasp_session.specs.Receive.{Handing, Outcome, none, ended_at, payload_at, answers, at_place as at_place_in, challenged, handed_at, hello, in_found, is_sha_1, made_at, post_of, received, received_as}
use Rattle.dasp_session.specs.Session.{Session, State}
use Rattle.dasp_session.specs.Ticking.{posted_in}
use Rattle.sox_msg.specs.Answered.{Answered, answered_text}
use Rattle.sox_msg.specs.Command.{number_in}
use Rattle.node_events.specs.Delivering.{delivered, handed}
use Rattle.node_events.specs.Heard.{Heard, Wish}
use Rattle.node_events.specs.Mishap.{Mishap}
use Rattle.node_events.specs.Node.{Node, Setup}
use Rattle.node_events.specs.Replying.{IsReplied, having_posted, having_taken, reply_letter, text_of_reply}
use Rattle.node_events.specs.Serving.{served}
use Rattle.node_events.proofs.FewSent.{set_here}
use Rattle.node_events.proofs.OpenMessages.{long_after}
use Rattle.node_events.proofs.OpenSessions.{found_is}

-- ---- what a step hands on: the payload of the message, from the session that took it, without a word

abbrev pub Delivers : ℤ → Message → Session → Option Session → List Message → Effect → Type 0
Delivers moment message x o says nothing = Unit {0}
Delivers moment message x o says ended = Unit {0}
Delivers moment message x o says (delivers bytes) =
    (o ≡ Some (having_taken moment message x)) × (says ≡ []) × (bytes ≡ message.payload)

module _ (moment : ℤ) (message : Message) (x : Session) where
  abbrev pub Heeds : Step → Type 0
  Heeds step = Delivers moment message x step.session step.says step.effect

  abbrev pub now : Session
  now = hears moment message x

  refused_heeds : Heeds (refused now)
  refused_heeds = by_test (is_authenticated now)
    where
      by_test : (b : Bool) → Heeds (if b then silent now else ends (close x.remote_id (Some not_known) ∷ []))
      by_test true = tt {0}
      by_test false = tt {0}

  proven_heeds : (b : Bool) → Heeds (if b then record { session = Some (record now { user = message.username }); says = welcome x.remote_id ∷ []; effect = nothing } else refused now)
  proven_heeds true = tt {0}
  proven_heeds false = refused_heeds

  taken_heeds : (taken : Taken) → Heeds (taken_in taken message now)
  taken_heeds New = (refl, refl, refl)
  taken_heeds Repeat = tt {0}
  taken_heeds Outside = tt {0}

  delivered_heeds : (b : Bool) → Heeds (if b then taken_in (taken_as x.taken message.sequence) message now else silent now)
  delivered_heeds true = taken_heeds (taken_as x.taken message.sequence)
  delivered_heeds false = tt {0}

  pub answered_heeds : (kind : MsgKind) (users : List User) → Heeds (answered kind users message now)
  answered_heeds Hello users = tt {0}
  answered_heeds Challenge users = tt {0}
  answered_heeds Authenticate users = proven_heeds (is_proof users x.nonce message.username message.digest)
  answered_heeds Welcome users = tt {0}
  answered_heeds KeepAlive users = tt {0}
  answered_heeds Datagram users = delivered_heeds (is_authenticated now && has_room now.posted)
  answered_heeds Close users = tt {0}

-- ---- what the sessions hand on

-- the session of the message, after the call
pub record IsTaken (state : State) (from : Addr) (message : Message) (after : State) (letters : List Letter) (place : ℕ) (payload : List ℕ) : Type 0 where
  pub found : Found
  pub of_session : found_from (is_session_of message.to from) 0 state.sessions ≡ Some found
  pub there : found.place ≡ place
  pub moment : after.moment ≡ state.moment
  pub session : session_at after place ≡ Some (having_taken state.moment message found.session)
  pub silent : letters ≡ []
  pub bytes : payload ≡ message.payload

abbrev pub Takes : State → Addr → Message → State → List Letter → Handing → Type 0
Takes state from message after letters none = Unit {0}
Takes state from message after letters (ended_at place) = Unit {0}
Takes state from message after letters (payload_at place payload) = IsTaken state from message after letters place payload

module _ (state : State) (from : Addr) (message : Message) where
  abbrev Fine : Outcome → Type 0
  Fine outcome = Takes state from message outcome.state outcome.letters outcome.handing

  either : (b : Bool) (x y : Outcome) → Fine x → Fine y → Fine (if b then x else y)
  either true x y one other = one
  either false x y one other = other

  made_fine : (remote_id : ℕ) (o : Option ℕ) → Fine (made_at state from remote_id o)
  made_fine remote_id None = tt {0}
  made_fine remote_id (Some place) = tt {0}

  challenged_fine : (remote_id : ℕ) (o : Option Found) → Fine (challenged state from remote_id o)
  challenged_fine remote_id (Some found) = tt {0}
  challenged_fine remote_id None =
      either (state.made == 4294967295) (answers state from (close remote_id (Some too_many))) (made_at state from remote_id (free_from 0 state.sessions))
      (tt {0}) (made_fine remote_id (free_from 0 state.sessions))

  hello_fine : (version remote_id : Option ℕ) (algorithm : Option (List ℕ)) → Fine (hello state from version remote_id algorithm)
  hello_fine None remote_id algorithm = tt {0}
  hello_fine (Some version) None algorithm = tt {0}
  hello_fine (Some version) (Some remote_id) algorithm =
      either (not (version == 0x0100)) (answers state from (close remote_id (Some other_version)))
      (if not (is_sha_1 algorithm) then answers state from (close remote_id (Some other_digest))
      else challenged state from remote_id (found_from (is_waiting_for from remote_id) 0 state.sessions))
      (tt {0})
      (either (not (is_sha_1 algorithm)) (answers state from (close remote_id (Some other_digest)))
      (challenged state from remote_id (found_from (is_waiting_for from remote_id) 0 state.sessions)) (tt {0})
      (challenged_fine remote_id (found_from (is_waiting_for from remote_id) 0 state.sessions)))

  step_fine : (found : Found) (o : Option Session) (says : List Message) (effect : Effect) → found_from (is_session_of message.to from) 0 state.sessions ≡ Some found
      → session_at state found.place ≡ Some found.session → Delivers state.moment message found.session o says effect
      → Takes state from message (record state { sessions = slice_set state.sessions found.place o }) (addressed found.session.address says) (handed_at found.place effect)
  step_fine found o says nothing is at heeds = tt {0}
  step_fine found o says ended is at heeds = tt {0}
  step_fine found o says (delivers bytes) is at heeds = record {
    found = found;
    of_session = is;
    there = refl;
    moment = refl;
    session = set_here state.sessions found.place found.session o at ∙ heeds.0;
    silent = ap (addressed found.session.address) heeds.1;
    bytes = heeds.2;
  }

  found_fine : (o : Option Found) → found_from (is_session_of message.to from) 0 state.sessions ≡ o → Fine (in_found state message o)
  found_fine None is = tt {0}
  found_fine (Some found) is =
      let there = (found_is (is_session_of message.to from) 0 state.sessions found is).1 in
      let at : session_at state found.place ≡ Some found.session = ap (λ (k : ℕ). get_or state.sessions k None) (let same : found.place ≡ found.place - 0 = omega arith in same) ∙ there in
      let step = in_session state.users state.moment message found.session in
      step_fine found step.session step.says step.effect is at (answered_heeds state.moment message found.session message.kind state.users)

  pub received_fine : (kind : MsgKind) → Fine (received_as kind state from message)
  received_fine Hello = hello_fine message.version message.remote_id message.algorithm
  received_fine Challenge = found_fine (found_from (is_session_of message.to from) 0 state.sessions) refl
  received_fine Authenticate = found_fine (found_from (is_session_of message.to from) 0 state.sessions) refl
  received_fine Welcome = found_fine (found_from (is_session_of message.to from) 0 state.sessions) refl
  received_fine KeepAlive = found_fine (found_from (is_session_of message.to from) 0 state.sessions) refl
  received_fine Datagram = found_fine (found_from (is_session_of message.to from) 0 state.sessions) refl
  received_fine Close = found_fine (found_from (is_session_of message.to from) 0 state.sessions) refl

-- ---- what is sent

some_eq : (x y : Answered) → ◌≡◌ {A = Option Answered} (Some x) (Some y) → x ≡ y
some_eq x y is = cc

no_some : (reply : Answered) → ◌≡◌ {A = Option Answered} None (Some reply) → ⊥
no_some reply is = cc

-- where a session stands in a place, one letter goes out
pub posted_letters : (state : State) (place : ℕ) (bytes : List ℕ) (y : Session) → session_at state place ≡ Some y
    → (post_of state place bytes).letters ≡ record { to = y.address; message = datagram y.remote_id y.taken (wire_number (length y.posted)) bytes } ∷ []
posted_letters state place bytes y is = ap (λ (o : Option Session). (at_place_in state place (posted_in state.moment bytes) o).letters) is

posted_session : (state : State) (place : ℕ) (bytes : List ℕ) (y : Session) → session_at state place ≡ Some y
    → session_at (post_of state place bytes).state place ≡ Some (having_posted state.moment bytes y)
posted_session state place bytes y is =
    ap (λ (o : Option Session). session_at (at_place_in state place (posted_in state.moment bytes) o).state place) is
    ∙ set_here state.sessions place y (Some (having_posted state.moment bytes y)) is

module _ (m : Meaning) (s : Setup) where
  handed_replied : (before n : Node) (from : Addr) (message : Message) (wish : Wish) (mishap : Mishap) (sent : List Letter) (handing : Handing) (reply : Answered)
      → Takes before.sessions from message n.sessions sent handing
      → (handed m s wish mishap n sent handing).reply ≡ Some reply
      → IsReplied before from message reply (handed m s wish mishap n sent handing)
  handed_replied before n from message wish mishap sent none reply takes is = absurd (no_some reply is)
  handed_replied before n from message wish mishap sent (ended_at place) reply takes is = absurd (no_some reply is)
  handed_replied before n from message wish mishap sent (payload_at place payload) reply takes is =
      let x : Session = takes.found.session in
      let y : Session = having_taken before.sessions.moment message x in
      let text : List ℕ = answered_text (number_in payload) (served m s n place wish mishap).reply in
      let same_text : text ≡ text_of_reply message reply =
      ap (λ (bytes : List ℕ). answered_text (number_in bytes) (served m s n place wish mishap).reply) takes.bytes
      ∙ ap (answered_text (number_in message.payload)) (some_eq _ _ is) in
      let letter : (post_of n.sessions place text).letters ≡ reply_letter x message (text_of_reply message reply) ∷ [] =
      posted_letters n.sessions place text y takes.session
      ∙ ap (λ (k : ℕ). record { to = x.address; message = datagram x.remote_id (after_take x.taken message.sequence) (wire_number k) text } ∷ []) (long_after x.posted message.ack message.ack_more)
      ∙ ap (λ (bytes : List ℕ). reply_letter x message bytes ∷ []) same_text in
      record {
        found = takes.found;
        of_session = takes.of_session;
        sent = ap (λ (first : List Letter). first ++ (post_of n.sessions place text).letters) takes.silent ∙ letter;
        posted =
            ap (λ (k : ℕ). session_at (post_of n.sessions place text).state k) takes.there
            ∙ posted_session n.sessions place text y takes.session
            ∙ ap (λ (moment : ℤ). Some (having_posted moment text y)) takes.moment
            ∙ ap (λ (bytes : List ℕ). Some (having_posted before.sessions.moment bytes y)) same_text;
      }

  pub reply_sent : (n : Node) (from : Addr) (heard : Heard) (mishap : Mishap) (reply : Answered)
      → (delivered m s n from (Some heard) mishap).reply ≡ Some reply
      → IsReplied n from heard.message reply (delivered m s n from (Some heard) mishap)
  reply_sent n from heard mishap reply is =
      let outcome = received n.sessions from (Some heard.message) in
      handed_replied n (record n { sessions = outcome.state }) from heard.message heard.wish mishap outcome.letters outcome.handing reply
      (received_fine n.sessions from heard.message heard.message.kind) is
