-- What no event changes of the sessions as a whole, and what a tick does to their moment.
use Rattle.std.proofs.Common.{◌≡◌, ℕ, Bool, true, false, List, [], ◌∷◌, length, refl, ◌∙◌, arith}
use Rattle.std.specs.Prelude.{ℤ, ◌==◌, ◌&&◌, not, ◌≤ℤ◌, Option, Some, None, slice_set, if◌then◌else◌}
use Rattle.std.specs.Int.Signed.{≤ℤ_refl}
use Rattle.std.specs.List.{fold}
use Rattle.std.proofs.lemmas.Int.{clamps, ints}
use Rattle.std.proofs.lemmas.List.{length-set}
use Rattle.sed_outside.specs.declared.addr.Addr.{Addr}
use Rattle.sed_engine.specs.Code.{Meaning}
use Rattle.comp_tree.specs.Application.{Application}
use Rattle.dasp_msg.specs.declared.kind.MsgKind.{MsgKind}
use Rattle.dasp_msg.specs.declared.kind.MsgKind.TheVariants.{Hello, Challenge, Authenticate, Welcome, KeepAlive, Datagram, Close}
use Rattle.dasp_msg.specs.Shown.{Message}
use Rattle.dasp_session.specs.Closing.{other_digest, other_version, too_many}
use Rattle.dasp_session.specs.Hearing.{Step, in_session}
use Rattle.dasp_session.specs.Letters.{Letter, close}
use Rattle.dasp_session.specs.Looking.{Found, found_from, free_from, is_session_of, is_waiting_for, session_at}
use Rattle.dasp_session.specs.Receive.{Handing, Outcome, none, ended_at, payload_at, advanced, answers, at_place, challenged, greeted, hello, in_found, is_sha_1, keep_of, made_at, new_session, post_of, received, received_as, tick_of}
use Rattle.dasp_session.specs.Session.{Session, State}
use Rattle.dasp_session.specs.Ticking.{kept_up as step_kept, posted_in, ticked as step_ticked}
use Rattle.sox_msg.specs.Answered.{answered_text}
use Rattle.sox_msg.specs.Command.{number_in}
use Rattle.node_events.specs.Delivering.{delivered, handed}
use Rattle.sox_events.specs.Due.{letter_of}
use Rattle.sox_msg.specs.Reply.{event_bytes}
use Rattle.node_events.specs.Events.{PartAt, Telling, bytes_of, has_room_at, is_due, parts_of, then_call, told as told_of, told_all, told_if_due}
use Rattle.node_events.specs.Heard.{Heard, Wish}
use Rattle.node_events.specs.Mishap.{Mishap}
use Rattle.node_events.specs.Node.{Node, Setup}
use Rattle.node_events.specs.Running.{Event, comes, one_event, passes, run}
use Rattle.node_events.specs.Serving.{served}
use Rattle.node_events.specs.Ticking.{advanced_to, at_place as at_place_of, cycle_of, kept_up, places, ticked, timed, without_ended}

pub record Same (before after : State) : Type 0 where
  pub users : after.users ≡ before.users
  pub secret : after.secret ≡ before.secret
  pub moment : after.moment ≡ before.moment
  pub places : length after.sessions ≡ length before.sessions

same : (x : State) → Same x x
same x = record { users = refl; secret = refl; moment = refl; places = refl }

then_same : (x y z : State) → Same x y → Same y z → Same x z
then_same x y z one other = record {
  users = other.users ∙ one.users;
  secret = other.secret ∙ one.secret;
  moment = other.moment ∙ one.moment;
  places = other.places ∙ one.places;
}

-- ---- the calls of the sessions

put_same : (state : State) (place : ℕ) (o : Option Session) → Same state (record state { sessions = slice_set state.sessions place o })
put_same state place o = record { users = refl; secret = refl; moment = refl; places = length-set state.sessions place o }

step_same : (state : State) (place : ℕ) (step : Session → Step) (o : Option Session) → Same state (at_place state place step o).state
step_same state place step None = same state
step_same state place step (Some session) = put_same state place (step session).session

post_same : (state : State) (place : ℕ) (bytes : List ℕ) → Same state (post_of state place bytes).state
post_same state place bytes = step_same state place (posted_in state.moment bytes) (session_at state place)

tick_same : (state : State) (place : ℕ) → Same state (tick_of state place).state
tick_same state place = step_same state place (step_ticked state.moment) (session_at state place)

keep_same : (state : State) (place : ℕ) → Same state (keep_of state place).state
keep_same state place = step_same state place step_kept (session_at state place)

either : (state : State) (b : Bool) (x y : Outcome) → Same state x.state → Same state y.state → Same state (if b then x else y).state
either state true x y one other = one
either state false x y one other = other

module _ (state : State) (from : Addr) where
  made_same : (remote_id : ℕ) (o : Option ℕ) → Same state (made_at state from remote_id o).state
  made_same remote_id None = same state
  made_same remote_id (Some place) = record {
    users = refl;
    secret = refl;
    moment = refl;
    places = length-set state.sessions place (Some (new_session state from remote_id place));
  }

  challenged_same : (remote_id : ℕ) (o : Option Found) → Same state (challenged state from remote_id o).state
  challenged_same remote_id (Some found) = same state
  challenged_same remote_id None =
      either state (state.made == 4294967295) (answers state from (close remote_id (Some too_many))) (made_at state from remote_id (free_from 0 state.sessions))
      (same state) (made_same remote_id (free_from 0 state.sessions))

  greeted_same : (version remote_id : ℕ) (algorithm : Option (List ℕ)) → Same state (greeted state from version remote_id algorithm).state
  greeted_same version remote_id algorithm =
      either state (not (version == 0x0100)) (answers state from (close remote_id (Some other_version)))
      (if not (is_sha_1 algorithm) then answers state from (close remote_id (Some other_digest))
      else challenged state from remote_id (found_from (is_waiting_for from remote_id) 0 state.sessions))
      (same state)
      (either state (not (is_sha_1 algorithm)) (answers state from (close remote_id (Some other_digest)))
      (challenged state from remote_id (found_from (is_waiting_for from remote_id) 0 state.sessions)) (same state)
      (challenged_same remote_id (found_from (is_waiting_for from remote_id) 0 state.sessions)))

  hello_same : (version remote_id : Option ℕ) (algorithm : Option (List ℕ)) → Same state (hello state from version remote_id algorithm).state
  hello_same None remote_id algorithm = same state
  hello_same (Some version) None algorithm = same state
  hello_same (Some version) (Some remote_id) algorithm = greeted_same version remote_id algorithm

  found_same : (message : Message) (o : Option Found) → Same state (in_found state message o).state
  found_same message None = same state
  found_same message (Some found) = put_same state found.place (in_session state.users state.moment message found.session).session

  received_same : (kind : MsgKind) (message : Message) → Same state (received_as kind state from message).state
  received_same Hello message = hello_same message.version message.remote_id message.algorithm
  received_same Challenge message = found_same message (found_from (is_session_of message.to from) 0 state.sessions)
  received_same Authenticate message = found_same message (found_from (is_session_of message.to from) 0 state.sessions)
  received_same Welcome message = found_same message (found_from (is_session_of message.to from) 0 state.sessions)
  received_same KeepAlive message = found_same message (found_from (is_session_of message.to from) 0 state.sessions)
  received_same Datagram message = found_same message (found_from (is_session_of message.to from) 0 state.sessions)
  received_same Close message = found_same message (found_from (is_session_of message.to from) 0 state.sessions)

-- ---- a datagram

module _ (m : Meaning) (s : Setup) where
  handed_same : (wish : Wish) (mishap : Mishap) (n : Node) (sent : List Letter) (handing : Handing)
      → Same n.sessions (handed m s wish mishap n sent handing).node.sessions
  handed_same wish mishap n sent none = same n.sessions
  handed_same wish mishap n sent (ended_at place) = same n.sessions
  handed_same wish mishap n sent (payload_at place payload) =
      post_same n.sessions place (answered_text (number_in payload) (served m s n place wish mishap).reply)

  pub delivered_same : (n : Node) (from : Addr) (heard : Option Heard) (mishap : Mishap)
      → Same n.sessions (delivered m s n from heard mishap).node.sessions
  delivered_same n from None mishap = same n.sessions
  delivered_same n from (Some heard) mishap =
      let outcome = received n.sessions from (Some heard.message) in
      then_same n.sessions outcome.state _ (received_same n.sessions from heard.message.kind heard.message)
      (handed_same heard.wish mishap (record n { sessions = outcome.state }) outcome.letters outcome.handing)

-- ---- a tick

-- a tick changes the application in its cycle alone
pub record Goes (before after : Node) : Type 0 where
  pub application : after.application ≡ before.application
  pub sessions : Same before.sessions after.sessions

goes : (n : Node) → Goes n n
goes n = record { application = refl; sessions = same n.sessions }

then_goes : (x y z : Node) → Goes x y → Goes y z → Goes x z
then_goes x y z one other = record {
  application = other.application ∙ one.application;
  sessions = then_same x.sessions y.sessions z.sessions one.sessions other.sessions;
}

ended_goes : (handing : Handing) (t : Telling) → Goes t.node (without_ended handing t).node
ended_goes none t = goes t.node
ended_goes (ended_at place) t = record { application = refl; sessions = same t.node.sessions }
ended_goes (payload_at place payload) t = goes t.node

timed_goes : (place : ℕ) (t : Telling) → Goes t.node (timed place t).node
timed_goes place t =
    let outcome = tick_of t.node.sessions place in
    then_goes t.node (then_call t outcome).node (timed place t).node (record { application = refl; sessions = tick_same t.node.sessions place })
    (ended_goes outcome.handing (then_call t outcome))

module _ (m : Meaning) where
  part_goes : (place : ℕ) (t : Telling) (p : PartAt) → Goes t.node (told_if_due m place t p).node
  part_goes place t p = by_test (has_room_at t.node.sessions place && is_due m t.node.application t.node.subscriptions place p.id p.part)
    where
      by_test : (b : Bool) → Goes t.node (if b then told_of place p.id p.part (bytes_of m t.node.application p.id p.part) t else t).node
      by_test true =
          record { application = refl; sessions = post_same t.node.sessions place (event_bytes p.id (letter_of p.part) (bytes_of m t.node.application p.id p.part)) }
      by_test false = goes t.node

  parts_go : (place : ℕ) (parts : List PartAt) (t : Telling) → Goes t.node (fold (told_if_due m place) t parts).node
  parts_go place [] t = goes t.node
  parts_go place (p ∷ parts) t =
      then_goes t.node (told_if_due m place t p).node (fold (told_if_due m place) (told_if_due m place t p) parts).node (part_goes place t p)
      (parts_go place parts (told_if_due m place t p))

  kept_goes : (place : ℕ) (t : Telling) → Goes t.node (kept_up place t).node
  kept_goes place t = record { application = refl; sessions = keep_same t.node.sessions place }

  place_goes : (t : Telling) (place : ℕ) → Goes t.node (at_place_of m t place).node
  place_goes t place =
      then_goes t.node (timed place t).node (at_place_of m t place).node (timed_goes place t)
      (then_goes (timed place t).node (told_all m place (timed place t)).node (at_place_of m t place).node
      (parts_go place (parts_of (timed place t).node.application) (timed place t)) (kept_goes place (told_all m place (timed place t))))

  places_go : (some : List ℕ) (t : Telling) → Goes t.node (fold (at_place_of m) t some).node
  places_go [] t = goes t.node
  places_go (place ∷ some) t =
      then_goes t.node (at_place_of m t place).node (fold (at_place_of m) (at_place_of m t place) some).node (place_goes t place)
      (places_go some (at_place_of m t place))

module _ (m : Meaning) (s : Setup) where
  abbrev pub cycled : Node → ℤ → Application
  cycled n moment = (cycle_of m s (advanced_to moment n)).application

  pub ticked_goes : (n : Node) (moment : ℤ) → Goes (record (advanced_to moment n) { application = cycled n moment }) (ticked m s n moment).node
  ticked_goes n moment = places_go m places (record { node = record (advanced_to moment n) { application = cycled n moment }; sent = [] })

  pub ticked_same : (n : Node) (moment : ℤ) → Same (advanced n.sessions moment) (ticked m s n moment).node.sessions
  ticked_same n moment = (ticked_goes n moment).sessions

-- ---- a run

module _ (m : Meaning) (s : Setup) where
  event_goes_on : (n : Node) (event : Event) → n.sessions.moment ≤ℤ (one_event m s n event).node.sessions.moment
  event_goes_on n (comes from heard mishap) = let is = (delivered_same m s n from heard mishap).moment in omega (arith, ints)
  event_goes_on n (passes moment) = let is = (ticked_same m s n moment).moment in omega (arith, ints, clamps)

  pub run_goes_on : (n : Node) (events : List Event) → n.sessions.moment ≤ℤ (run m s n events).node.sessions.moment
  run_goes_on n [] = ≤ℤ_refl n.sessions.moment
  run_goes_on n (event ∷ events) =
      let one = event_goes_on n event in
      let rest = run_goes_on (one_event m s n event).node events in
      omega (arith, ints)

  -- ---- the users and the secret

  pub users_stay : (n : Node) (events : List Event) → (run m s n events).node.sessions.users ≡ n.sessions.users
  users_stay n [] = refl
  users_stay n (comes from heard mishap ∷ events) =
      users_stay (one_event m s n (comes from heard mishap)).node events ∙ (delivered_same m s n from heard mishap).users
  users_stay n (passes moment ∷ events) = users_stay (one_event m s n (passes moment)).node events ∙ (ticked_same m s n moment).users

  pub secret_stays : (n : Node) (events : List Event) → (run m s n events).node.sessions.secret ≡ n.sessions.secret
  secret_stays n [] = refl
  secret_stays n (comes from heard mishap ∷ events) =
      secret_stays (one_event m s n (comes from heard mishap)).node events ∙ (delivered_same m s n from heard mishap).secret
  secret_stays n (passes moment ∷ events) = secret_stays (one_event m s n (passes moment)).node events ∙ (ticked_same m s n moment).secret

  pub places_stay : (n : Node) (events : List Event) → length (run m s n events).node.sessions.sessions ≡ length n.sessions.sessions
  places_stay n [] = refl
  places_stay n (comes from heard mishap ∷ events) =
      places_stay (one_event m s n (comes from heard mishap)).node events ∙ (delivered_same m s n from heard mishap).places
  places_stay n (passes moment ∷ events) = places_stay (one_event m s n (passes moment)).node events ∙ (ticked_same m s n moment).places
