-- Each letter that a step emits may be sent.
use Rattle.std.proofs.Common.{◌≡◌, ℕ, zero, suc, ◌≤◌, ℤ, Bool, true, false, not, List, [], ◌∷◌, ◌++◌, length, map, take, set, get_or, refl, subst, arith}
use Rattle.std.specs.Prelude.{Option, Some, None, ◌==◌, ◌&&◌, replicate, if◌then◌else◌}
use Rattle.std.specs.Option.{ForSome}
use Rattle.std.proofs.lemmas.List.{length-take}
use Rattle.sed_outside.specs.declared.addr.Addr.{Addr}
use Rattle.dasp_msg.specs.Acks.{ack_of}
use Rattle.dasp_msg.specs.Numbers.{wire_number}
use Rattle.dasp_msg.specs.Posted.{acknowledged_if, acknowledged_to, acknowledged_where, after_acks, count_of, has_room, is_due, is_for, new_message, sent_again}
use Rattle.dasp_msg.specs.Sending.{CanGo}
use Rattle.dasp_msg.specs.Shown.{Message}
use Rattle.dasp_msg.specs.TakenIndexes.{is_ahead, taken_as}
use Rattle.dasp_msg.specs.declared.kind.MsgKind.{MsgKind}
use Rattle.dasp_msg.specs.declared.kind.MsgKind.TheVariants.{Hello, Challenge, Authenticate, Welcome, KeepAlive, Datagram, Close}
use Rattle.dasp_msg.specs.declared.outgoing.Message.{Message as Posted}
use Rattle.dasp_msg.specs.declared.receiver.Taken.{Taken}
use Rattle.dasp_msg.specs.declared.receiver.Taken.TheVariants.{New, Repeat, Outside}
use Rattle.dasp_msg.proofs.OfKindLemmas.{challenge_can, close_can, datagram_can, keep_alive_can, welcome_can}
use Rattle.dasp_session.specs.declared.user.User.{User}
use Rattle.dasp_session.specs.Closing.{not_known, other_digest, other_version, timed_out, too_many}
use Rattle.dasp_session.specs.Hearing.{Step, nothing, silent, ends, hears, is_authenticated, is_proof, refused, authenticated, taken_in, delivered, answered, in_session}
use Rattle.dasp_session.specs.Letters.{addressed, byte_above, close, datagram, keep_alive, more_of, welcome}
use Rattle.dasp_session.specs.Looking.{Found, found_from, free_from, is_session_of, is_waiting_for, session_at}
use Rattle.dasp_session.specs.Receive.{Outcome, answers, at_place, challenge_of, challenged, hello, in_found, is_sha_1, made_at, new_session, received, received_as}
use Rattle.dasp_session.specs.Session.{Session, State}
use Rattle.dasp_session.specs.Speaking.{AllCanGo, AllCanSpeak, AreShort, CanSpeak, Speaks}
use Rattle.dasp_session.specs.Ticking.{again_if_due, is_over, kept_up, posted_in, resends, resent, sent_all, ticked}

-- WHAT IS POSTED

acked-short : (test : ℕ → Bool) (index : ℕ) (posted : List Posted) → AreShort posted → AreShort (acknowledged_where test index posted)
acked-short test index [] short = tt
acked-short test index (message ∷ later) short = (by_test (test index), acked-short test (suc index) later short.1)
  where
    by_test : (b : Bool) → length (acknowledged_if b message).bytes ≤ 498
    by_test true = short.0
    by_test false = short.0

to-short : (posted : List Posted) (more : Option (List ℕ)) (count : Option ℕ) → AreShort posted → AreShort (acknowledged_to posted more count)
to-short posted more None short = short
to-short posted more (Some count) short = acked-short (is_for count more) 0 posted short

after-short : (posted : List Posted) (ack : Option ℕ) (more : Option (List ℕ)) → AreShort posted → AreShort (after_acks posted ack more)
after-short posted None more short = short
after-short posted (Some ack) more short = to-short posted _ (count_of posted ack) short

push-short : (posted : List Posted) (bytes : List ℕ) (moment : ℤ) → length bytes ≤ 498 → AreShort posted → AreShort (posted ++ new_message bytes moment ∷ [])
push-short [] bytes moment few short = (few, tt)
push-short (message ∷ later) bytes moment few short = (short.0, push-short later bytes moment few short.1)

again-short : (moment : ℤ) (posted : List Posted) → AreShort posted → AreShort (map (again_if_due moment) posted)
again-short moment [] short = tt
again-short moment (message ∷ later) short = (by_test (is_due moment message), again-short moment later short.1)
  where
    by_test : (b : Bool) → length (if b then sent_again moment message else message).bytes ≤ 498
    by_test true = short.0
    by_test false = short.0

-- LETTERS

some_eq : {A : Type 0} {a b : A} → Some a ≡ Some b → a ≡ b
some_eq e = cc

more-four : (taken : List ℕ) → ForSome (more_of taken) (λ bytes. length bytes ≡ 4)
more-four taken = by_test (is_ahead taken)
  where
    four : List ℕ
    four = byte_above taken 0 ∷ byte_above taken 8 ∷ byte_above taken 16 ∷ byte_above taken 24 ∷ []

    by_test : (b : Bool) → ForSome (if b then Some (byte_above taken 0 ∷ byte_above taken 8 ∷ byte_above taken 16 ∷ byte_above taken 24 ∷ []) else None) (λ bytes. length bytes ≡ 4)
    by_test true = λ bytes is. subst (λ (bytes : List ℕ). length bytes ≡ 4) (some_eq is) refl
    by_test false = λ bytes is. absurd (let no : ◌≡◌ {A = Option (List ℕ)} None (Some bytes) = is in cc)

datagram-can : (remote_id number : ℕ) (taken bytes : List ℕ) → length bytes ≤ 498 → CanGo (datagram remote_id taken number bytes)
datagram-can remote_id number taken bytes short = datagram_can remote_id (ack_of taken) number (more_of taken) bytes (more-four taken) short

keep_alive-can : (remote_id : ℕ) (taken : List ℕ) → CanGo (keep_alive remote_id taken)
keep_alive-can remote_id taken = keep_alive_can remote_id (ack_of taken) (more_of taken) (more-four taken)

resends-can : (to : Addr) (remote_id : ℕ) (taken : List ℕ) (moment : ℤ) (index : ℕ) (posted : List Posted) → AreShort posted
    → AllCanGo (addressed to (resends remote_id taken moment index posted))
resends-can to remote_id taken moment index [] short = tt
resends-can to remote_id taken moment index (message ∷ later) short = by_test (is_due moment message) (resends-can to remote_id taken moment (suc index) later short.1)
  where
    by_test : (b : Bool) → AllCanGo (addressed to (resends remote_id taken moment (suc index) later)) → AllCanGo (addressed to (
        if b then datagram remote_id taken (wire_number index) message.bytes ∷ resends remote_id taken moment (suc index) later
        else resends remote_id taken moment (suc index) later))
    by_test true rest = (datagram-can remote_id (wire_number index) taken message.bytes short.0, rest)
    by_test false rest = rest

-- ONE SESSION

-- what it says may be sent, and what becomes of it can say no other
pub record Fine (step : Step) : Type 0 where
  pub says : (to : Addr) → AllCanGo (addressed to step.says)
  pub session : ForSome step.session CanSpeak

still : (now : Session) → CanSpeak now → ForSome (Some now) CanSpeak
still now speaks = λ other is. subst CanSpeak (some_eq is) speaks

gone : ForSome None CanSpeak
gone = λ other is. absurd (let no : ◌≡◌ {A = Option Session} None (Some other) = is in cc)

silent-fine : (now : Session) → CanSpeak now → Fine (silent now)
silent-fine now speaks = record { says = λ to. tt; session = still now speaks }

close-fine : (remote_id : ℕ) (code : Option ℕ) → Fine (ends (close remote_id code ∷ []))
close-fine remote_id code = record { says = λ to. (close_can remote_id code, tt); session = gone }

module _ (now : Session) (speaks : CanSpeak now) where
  refused-fine : Fine (refused now)
  refused-fine = by_test (is_authenticated now)
    where
      by_test : (b : Bool) → Fine (if b then silent now else ends (close now.remote_id (Some not_known) ∷ []))
      by_test true = silent-fine now speaks
      by_test false = close-fine now.remote_id (Some not_known)

  authenticated-fine : (users : List User) (message : Message) → Fine (authenticated users message now)
  authenticated-fine users message = by_test (is_proof users now.nonce message.username message.digest)
    where
      by_test : (b : Bool) → Fine (if b then record { session = Some (record now { user = message.username }); says = welcome now.remote_id ∷ []; effect = nothing } else refused now)
      by_test true = record {
        says = λ to. (welcome_can now.remote_id, tt);
        session = still (record now { user = message.username }) (record { nonce = speaks.nonce; posted = speaks.posted });
      }
      by_test false = refused-fine

  taken-fine : (taken : Taken) (message : Message) → Fine (taken_in taken message now)
  taken-fine New message = record {
    says = λ to. tt;
    session = still _ (record { nonce = speaks.nonce; posted = speaks.posted });
  }
  taken-fine Repeat message = silent-fine _ (record { nonce = speaks.nonce; posted = speaks.posted })
  taken-fine Outside message = silent-fine now speaks

  delivered-fine : (message : Message) → Fine (delivered message now)
  delivered-fine message = by_test (is_authenticated now && has_room now.posted)
    where
      by_test : (b : Bool) → Fine (if b then taken_in (taken_as now.taken message.sequence) message now else silent now)
      by_test true = taken-fine (taken_as now.taken message.sequence) message
      by_test false = silent-fine now speaks

  answered-fine : (kind : MsgKind) (users : List User) (message : Message) → Fine (answered kind users message now)
  answered-fine Hello users message = silent-fine now speaks
  answered-fine Challenge users message = silent-fine now speaks
  answered-fine Authenticate users message = authenticated-fine users message
  answered-fine Welcome users message = silent-fine now speaks
  answered-fine KeepAlive users message = silent-fine _ (record { nonce = speaks.nonce; posted = speaks.posted })
  answered-fine Datagram users message = delivered-fine message
  answered-fine Close users message = record { says = λ to. tt; session = gone }

  pub ticked-fine : (moment : ℤ) → Fine (ticked moment now)
  ticked-fine moment = by_test (is_over moment now)
    where
      by_test : (b : Bool) → Fine (if b then ends (close now.remote_id (Some timed_out) ∷ []) else sent_all moment now)
      by_test true = close-fine now.remote_id (Some timed_out)
      by_test false = record {
        says = λ to. resends-can to now.remote_id now.taken moment 0 now.posted speaks.posted;
        session = still (resent moment now) (record { nonce = speaks.nonce; posted = again-short moment now.posted speaks.posted });
      }

  pub posted-fine : (moment : ℤ) (bytes : List ℕ) → length bytes ≤ 498 → Fine (posted_in moment bytes now)
  posted-fine moment bytes few = record {
    says = λ to. (datagram-can now.remote_id (wire_number (length now.posted)) now.taken bytes few, tt);
    session = still _ (record { nonce = speaks.nonce; posted = push-short now.posted bytes moment few speaks.posted });
  }

  pub kept-fine : Fine (kept_up now)
  kept-fine = by_test now.owed
    where
      by_test : (b : Bool) → Fine (if b then record { session = Some (record now { owed = false }); says = keep_alive now.remote_id now.taken ∷ []; effect = nothing } else silent now)
      by_test true = record {
        says = λ to. (keep_alive-can now.remote_id now.taken, tt);
        session = still (record now { owed = false }) (record { nonce = speaks.nonce; posted = speaks.posted });
      }
      by_test false = silent-fine now speaks

heard-fine : (users : List User) (moment : ℤ) (message : Message) (session : Session) → CanSpeak session → Fine (in_session users moment message session)
heard-fine users moment message session speaks =
    answered-fine (hears moment message session)
    (record { nonce = speaks.nonce; posted = after-short session.posted message.ack message.ack_more speaks.posted })
    message.kind users message

-- ALL SESSIONS

abbrev AllSpeak : List (Option Session) → Type 0
AllSpeak sessions = (place : ℕ) → ForSome (get_or sessions place None) CanSpeak

set-speaks : (sessions : List (Option Session)) (k : ℕ) (slot : Option Session) → AllSpeak sessions → ForSome slot CanSpeak → AllSpeak (set sessions k slot)
set-speaks [] k slot all here = all
set-speaks (first ∷ later) zero slot all here = by_place
  where
    by_place : AllSpeak (slot ∷ later)
    by_place zero = here
    by_place (suc place) = all (suc place)
set-speaks (first ∷ later) (suc k) slot all here = by_place (set-speaks later k slot (λ place. all (suc place)) here)
  where
    by_place : AllSpeak (set later k slot) → AllSpeak (first ∷ set later k slot)
    by_place rest zero = all zero
    by_place rest (suc place) = rest place

found-speaks : (test : Session → Bool) (at : ℕ) (sessions : List (Option Session)) (found : Found) → AllSpeak sessions → found_from test at sessions ≡ Some found → CanSpeak found.session
found-speaks test at [] found all is = absurd (let no : ◌≡◌ {A = Option Found} None (Some found) = is in cc)
found-speaks test at (None ∷ later) found all is = found-speaks test (suc at) later found (λ place. all (suc place)) is
found-speaks test at (Some session ∷ later) found all is = by_test (test session) (found-speaks test (suc at) later found (λ place. all (suc place))) is
  where
    by_test : (b : Bool) → (found_from test (suc at) later ≡ Some found → CanSpeak found.session) → (if b then Some (record { place = at; session = session }) else found_from test (suc at) later) ≡ Some found → CanSpeak found.session
    by_test true rest here = subst (λ (f : Found). CanSpeak f.session) (some_eq here) (all zero session refl)
    by_test false rest behind = rest behind

nobody-speaks : (n : ℕ) → AllSpeak (replicate n None)
nobody-speaks zero place = gone
nobody-speaks (suc n) zero = gone
nobody-speaks (suc n) (suc place) = nobody-speaks n place

pub none-yet : AllSpeak (replicate 16 None)
none-yet = nobody-speaks 16

nonce-short : (bytes : List ℕ) → length (take 10 bytes) ≤ 10
nonce-short bytes = omega (arith, length-take 10 bytes)

module _ (state : State) (all : AllCanSpeak state) where
  pub at-speaks : (place : ℕ) (step_of : Session → Step) → ((now : Session) → CanSpeak now → Fine (step_of now)) → Speaks (at_place state place step_of (session_at state place))
  at-speaks place step_of fine_of = by_slot (session_at state place) refl
    where
      by_slot : (slot : Option Session) → session_at state place ≡ slot → Speaks (at_place state place step_of slot)
      by_slot None is = record { letters = tt; sessions = all }
      by_slot (Some now) is =
          let fine : Fine (step_of now) = fine_of now (all place now is) in
          record { letters = fine.says now.address; sessions = set-speaks state.sessions place (step_of now).session all fine.session }

  answer-speaks : (from : Addr) (message : Message) → CanGo message → Speaks (answers state from message)
  answer-speaks from message can = record { letters = (can, tt); sessions = all }

  either : (b : Bool) (x y : Outcome) → Speaks x → Speaks y → Speaks (if b then x else y)
  either true x y one other = one
  either false x y one other = other

  made-speaks : (from : Addr) (remote_id : ℕ) (slot : Option ℕ) → Speaks (made_at state from remote_id slot)
  made-speaks from remote_id None = answer-speaks from _ (close_can remote_id (Some too_many))
  made-speaks from remote_id (Some place) =
      let new : Session = new_session state from remote_id place in
      let short : length new.nonce ≤ 10 = nonce-short _ in
      record {
        letters = (challenge_can remote_id new.id new.nonce short, tt);
        sessions = set-speaks state.sessions place (Some new) all (still new (record { nonce = short; posted = tt }));
      }

  challenged-speaks : (from : Addr) (remote_id : ℕ) (found : Option Found) → found_from (is_waiting_for from remote_id) 0 state.sessions ≡ found → Speaks (challenged state from remote_id found)
  challenged-speaks from remote_id (Some found) is =
      let it : Session = found.session in
      answer-speaks from (challenge_of it)
      (challenge_can it.remote_id it.id it.nonce (found-speaks (is_waiting_for from remote_id) 0 state.sessions found all is).nonce)
  challenged-speaks from remote_id None is =
      either (state.made == 4294967295) (answers state from (close remote_id (Some too_many))) (made_at state from remote_id (free_from 0 state.sessions))
      (answer-speaks from _ (close_can remote_id (Some too_many))) (made-speaks from remote_id (free_from 0 state.sessions))

  hello-speaks : (from : Addr) (version remote_id : Option ℕ) (algorithm : Option (List ℕ)) → Speaks (hello state from version remote_id algorithm)
  hello-speaks from None remote_id algorithm = record { letters = tt; sessions = all }
  hello-speaks from (Some version) None algorithm = record { letters = tt; sessions = all }
  hello-speaks from (Some version) (Some remote_id) algorithm =
      let found = found_from (is_waiting_for from remote_id) 0 state.sessions in
      either (not (version == 0x0100)) (answers state from (close remote_id (Some other_version)))
      (if not (is_sha_1 algorithm) then answers state from (close remote_id (Some other_digest)) else challenged state from remote_id found)
      (answer-speaks from _ (close_can remote_id (Some other_version)))
      (either (not (is_sha_1 algorithm)) (answers state from (close remote_id (Some other_digest))) (challenged state from remote_id found)
      (answer-speaks from _ (close_can remote_id (Some other_digest))) (challenged-speaks from remote_id found refl))

  told-speaks : (message : Message) (from : Addr) (found : Option Found) → found_from (is_session_of message.to from) 0 state.sessions ≡ found → Speaks (in_found state message found)
  told-speaks message from None is = record { letters = tt; sessions = all }
  told-speaks message from (Some found) is =
      let step : Step = in_session state.users state.moment message found.session in
      let fine : Fine step = heard-fine state.users state.moment message found.session (found-speaks (is_session_of message.to from) 0 state.sessions found all is) in
      record { letters = fine.says found.session.address; sessions = set-speaks state.sessions found.place step.session all fine.session }

  kind-speaks : (kind : MsgKind) (from : Addr) (message : Message) → Speaks (received_as kind state from message)
  kind-speaks Hello from message = hello-speaks from message.version message.remote_id message.algorithm
  kind-speaks Challenge from message = told-speaks message from _ refl
  kind-speaks Authenticate from message = told-speaks message from _ refl
  kind-speaks Welcome from message = told-speaks message from _ refl
  kind-speaks KeepAlive from message = told-speaks message from _ refl
  kind-speaks Datagram from message = told-speaks message from _ refl
  kind-speaks Close from message = told-speaks message from _ refl

  pub received-speaks : (from : Addr) (message : Option Message) → Speaks (received state from message)
  received-speaks from None = record { letters = tt; sessions = all }
  received-speaks from (Some message) = kind-speaks message.kind from message
