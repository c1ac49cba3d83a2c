-- At most so many messages are sent at a place, and the windows are kept.
use Rattle.std.proofs.Common.{◌≡◌, ◌<◌, ◌≤◌, ◌+◌, ◌-◌, ◌*◌, ℕ, zero, suc, inl, inr, Bool, true, false, List, [], ◌∷◌, ◌++◌, length, map, get_or, set, replicate, refl, sym, ◌∙◌, ap, subst, arith}
use Rattle.std.specs.Prelude.{ℤ, ◌==◌, ◌&&◌, not, IfSome, Option, Some, None, slice_set, if◌then◌else◌}
use Rattle.std.specs.List.{fold, list_any}
use Rattle.std.specs.Option.{option_map_or}
use Rattle.std.proofs.lemmas.Bool.{cases_eq}
use Rattle.std.proofs.lemmas.List.{get_or-set_other, get_or-set_same, length-append, length-map}
use Rattle.sed_outside.specs.declared.addr.Addr.{Addr}
use Rattle.sed_engine.specs.Code.{Meaning}
use Rattle.dasp_msg.specs.declared.kind.MsgKind.{MsgKind}
use Rattle.dasp_msg.specs.declared.kind.MsgKind.TheVariants.{Hello, Challenge, Authenticate, Welcome, KeepAlive, Datagram, Close}
use Rattle.dasp_msg.specs.Shown.{Message}
use Rattle.dasp_session.specs.declared.user.User.{User}
use Rattle.dasp_msg.specs.declared.receiver.Taken.{Taken}
use Rattle.dasp_msg.specs.declared.receiver.Taken.TheVariants.{New, Repeat, Outside}
use Rattle.dasp_msg.specs.Posted.{has_room, is_due}
use Rattle.dasp_msg.specs.TakenIndexes.{taken_as}
use Rattle.dasp_session.specs.Closing.{other_digest, other_version, too_many}
use Rattle.dasp_session.specs.Hearing.{Effect, nothing, ended, delivers, Step, answered, authenticated, delivered as delivered_in, ends, hears, in_session, is_authenticated, is_proof, refused, silent, taken_in}
use Rattle.dasp_session.specs.Letters.{Letter, addressed, close, keep_alive, welcome}
use Rattle.dasp_session.specs.Looking.{Found, found_from, free_from, is_session_of, is_waiting_for, session_at}
use Rattle.dasp_session.specs.Receive.{Handing, Outcome, none, ended_at, payload_at, answers, at_place as at_place_in, challenged, handed_at, hello, in_found, is_sha_1, made_at, new_session, post_of, received, received_as, tick_of}
use Rattle.dasp_session.specs.Session.{Session, State}
use Rattle.dasp_session.specs.Ticking.{again_if_due, is_over, kept_up as kept_in, posted_in, resends, sent_all, ticked as ticked_in}
use Rattle.sox_msg.specs.Answered.{answered_text}
use Rattle.sox_msg.specs.Command.{number_in}
use Rattle.node_events.specs.Delivering.{delivered, handed}
use Rattle.sox_events.specs.Due.{letter_of}
use Rattle.sox_msg.specs.Reply.{event_bytes}
use Rattle.node_events.specs.Events.{PartAt, Telling, bytes_of, has_room_at, is_due as is_due_of, parts_of, then_call, told, told_all, told_if_due, with_last}
use Rattle.node_events.specs.Heard.{Heard, Wish}
use Rattle.node_events.specs.Mishap.{Mishap}
use Rattle.node_events.specs.Node.{KeepsWindows, Node, Setup}
use Rattle.node_events.specs.Running.{Event, comes, one_event, passes, run}
use Rattle.node_events.specs.Serving.{served}
use Rattle.node_events.specs.Ticking.{advanced_to, at_place, cycle_of, kept_up, places, ticked, timed, without_ended}
use Rattle.node_events.proofs.OpenSessions.{Sessions, found_is, within}
use Rattle.node_events.proofs.OpenMessages.{fewer_after, none_due, open_again, open_count, open_pushed, resends_few, room_is}

abbrev IsFew : Option Session → Type 0
IsFew o = IfSome o (λ (x : Session). open_count x.posted ≤ 31)

-- ---- places

pub set_here : (xs : Sessions) (place : ℕ) (x : Session) (o : Option Session) → get_or xs place None ≡ Some x → get_or (set xs place o) place None ≡ o
set_here xs place x o is = get_or-set_same xs place o None (within xs place x is)

here : (o : Option Session) (x : Session) → o ≡ Some x → IsFew o → open_count x.posted ≤ 31
here o x is few = subst IsFew is few

module _ (state : State) where
  -- a session in the place of another
  keeps_put : (place : ℕ) (x : Session) (o : Option Session) → session_at state place ≡ Some x → KeepsWindows state → IsFew o
      → KeepsWindows (record state { sessions = slice_set state.sessions place o })
  keeps_put place x o is keeps few q = elim (cases_eq q place) [
    | inl e ↦ subst IsFew (sym (ap (λ (k : ℕ). get_or (set state.sessions place o) k None) e ∙ set_here state.sessions place x o is)) few
    | inr ne ↦ subst IsFew (sym (get_or-set_other state.sessions place q o None ne)) (keeps q)
  ]

-- ---- what a step of a session leaves and says, which found so many open messages

record Fine (x : Session) (step : Step) : Type 0 where
  few : IsFew step.session
  says : length step.says ≤ 1

-- beside that, where a payload is delivered there is room, and nothing is said yet
abbrev Delivers : Option Session → Effect → List Message → Type 0
Delivers o nothing says = Unit {0}
Delivers o ended says = Unit {0}
Delivers None (delivers bytes) says = ⊥
Delivers (Some y) (delivers bytes) says = (open_count y.posted < 31) × (length says ≡ 0)

record Heeds (step : Step) : Type 0 where
  few : IsFew step.session
  says : length step.says ≤ 1
  delivers : Delivers step.session step.effect step.says

module _ (x : Session) (few : open_count x.posted ≤ 31) where
  silent_heeds : Heeds (silent x)
  silent_heeds = record { few = few; says = omega arith; delivers = tt {0} }

  refused_heeds : Heeds (refused x)
  refused_heeds = by_test (is_authenticated x)
    where
      by_test : (b : Bool) → Heeds (if b then silent x else ends (close x.remote_id (Some 0xe4) ∷ []))
      by_test true = silent_heeds
      by_test false = record { few = tt {0}; says = omega arith; delivers = tt {0} }

  authenticated_heeds : (users : List User) (message : Message) → Heeds (authenticated users message x)
  authenticated_heeds users message = by_test (is_proof users x.nonce message.username message.digest)
    where
      by_test : (b : Bool) → Heeds (if b then record { session = Some (record x { user = message.username }); says = welcome x.remote_id ∷ []; effect = nothing } else refused x)
      by_test true = record { few = few; says = omega arith; delivers = tt {0} }
      by_test false = refused_heeds

  taken_heeds : (message : Message) (taken : Taken) → has_room x.posted ≡ true → Heeds (taken_in taken message x)
  taken_heeds message New room = record { few = few; says = omega arith; delivers = (room_is x.posted room, refl) }
  taken_heeds message Repeat room = record { few = few; says = omega arith; delivers = tt {0} }
  taken_heeds message Outside room = silent_heeds

  delivered_heeds : (message : Message) → Heeds (delivered_in message x)
  delivered_heeds message = by_tests (is_authenticated x) (has_room x.posted) refl
    where
      by_tests : (b c : Bool) → has_room x.posted ≡ c → Heeds (if b && c then taken_in (taken_as x.taken message.sequence) message x else silent x)
      by_tests true true room = taken_heeds message (taken_as x.taken message.sequence) room
      by_tests true false room = silent_heeds
      by_tests false c room = silent_heeds

  answered_heeds : (kind : MsgKind) (users : List User) (message : Message) → Heeds (answered kind users message x)
  answered_heeds Hello users message = silent_heeds
  answered_heeds Challenge users message = silent_heeds
  answered_heeds Authenticate users message = authenticated_heeds users message
  answered_heeds Welcome users message = silent_heeds
  answered_heeds KeepAlive users message = record { few = few; says = omega arith; delivers = tt {0} }
  answered_heeds Datagram users message = delivered_heeds message
  answered_heeds Close users message = record { few = tt {0}; says = omega arith; delivers = tt {0} }

heard_heeds : (users : List User) (moment : ℤ) (message : Message) (x : Session) → open_count x.posted ≤ 31 → Heeds (in_session users moment message x)
heard_heeds users moment message x few =
    answered_heeds (hears moment message x) (let less = fewer_after x.posted message.ack message.ack_more in omega arith) message.kind users message

-- ---- what a call leaves

addressed_as : (to : Addr) (messages : List Message) → length (addressed to messages) ≡ length messages
addressed_as to messages = length-map messages _

-- a payload is handed on where there is room for its reply, and nothing was said
abbrev ByHanding : State → List Letter → Handing → Type 0
ByHanding state sent none = Unit {0}
ByHanding state sent (ended_at place) = Unit {0}
ByHanding state sent (payload_at place bytes) = (y : Session) × (session_at state place ≡ Some y) × (open_count y.posted < 31) × (length sent ≡ 0)

record Leaves (outcome : Outcome) : Type 0 where
  keeps : KeepsWindows outcome.state
  says : length outcome.letters ≤ 1
  payload : ByHanding outcome.state outcome.letters outcome.handing

module _ (state : State) (keeps : KeepsWindows state) (from : Addr) where
  silent_leaves : Leaves (record { state = state; letters = []; handing = none })
  silent_leaves = record { keeps = keeps; says = omega arith; payload = tt {0} }

  answer_leaves : (message : Message) → Leaves (answers state from message)
  answer_leaves message = record { keeps = keeps; says = omega arith; payload = tt {0} }

  either : (b : Bool) (x y : Outcome) → Leaves x → Leaves y → Leaves (if b then x else y)
  either true x y one other = one
  either false x y one other = other

  made_leaves : (remote_id : ℕ) (o : Option ℕ) → Leaves (made_at state from remote_id o)
  made_leaves remote_id None = answer_leaves (close remote_id (Some too_many))
  made_leaves remote_id (Some place) = record { keeps = after; says = omega arith; payload = tt {0} }
    where
      put_few : (xs : Sessions) (k : ℕ) → IsFew (get_or xs k None) → IsFew (get_or (set xs k (Some (new_session state from remote_id place))) k None)
      put_few [] k few = few
      put_few (x ∷ xs) zero few = omega arith
      put_few (x ∷ xs) (suc k) few = put_few xs k few

      after : KeepsWindows (record state { made = state.made + 1; sessions = slice_set state.sessions place (Some (new_session state from remote_id place)) })
      after q = elim (cases_eq q place) [
        | inl e ↦
            subst IsFew (ap (λ (k : ℕ). get_or (set state.sessions place (Some (new_session state from remote_id place))) k None) (sym e))
            (put_few state.sessions place (keeps place))
        | inr ne ↦ subst IsFew (sym (get_or-set_other state.sessions place q (Some (new_session state from remote_id place)) None ne)) (keeps q)
      ]

  challenged_leaves : (remote_id : ℕ) (o : Option Found) → Leaves (challenged state from remote_id o)
  challenged_leaves remote_id (Some found) = answer_leaves _
  challenged_leaves remote_id None =
      either (state.made == 4294967295) (answers state from (close remote_id (Some too_many))) (made_at state from remote_id (free_from 0 state.sessions))
      (answer_leaves (close remote_id (Some too_many))) (made_leaves remote_id (free_from 0 state.sessions))

  hello_leaves : (version remote_id : Option ℕ) (algorithm : Option (List ℕ)) → Leaves (hello state from version remote_id algorithm)
  hello_leaves None remote_id algorithm = silent_leaves
  hello_leaves (Some version) None algorithm = silent_leaves
  hello_leaves (Some version) (Some remote_id) algorithm =
      either (not (version == 0x0100)) (answers state from (close remote_id (Some other_version)))
      (if not (is_sha_1 algorithm) then answers state from (close remote_id (Some other_digest))
      else challenged state from remote_id (found_from (is_waiting_for from remote_id) 0 state.sessions))
      (answer_leaves (close remote_id (Some other_version)))
      (either (not (is_sha_1 algorithm)) (answers state from (close remote_id (Some other_digest)))
      (challenged state from remote_id (found_from (is_waiting_for from remote_id) 0 state.sessions)) (answer_leaves (close remote_id (Some other_digest)))
      (challenged_leaves remote_id (found_from (is_waiting_for from remote_id) 0 state.sessions)))

  step_payload : (place : ℕ) (x : Session) (o : Option Session) (effect : Effect) (says : List Message) → session_at state place ≡ Some x → Delivers o effect says
      → ByHanding (record state { sessions = slice_set state.sessions place o }) (addressed x.address says) (handed_at place effect)
  step_payload place x o nothing says is heeds = tt {0}
  step_payload place x o ended says is heeds = tt {0}
  step_payload place x None (delivers bytes) says is heeds = absurd heeds
  step_payload place x (Some y) (delivers bytes) says is heeds =
      (y, set_here state.sessions place x (Some y) is, heeds.0, addressed_as x.address says ∙ heeds.1)

  found_leaves : (message : Message) (o : Option Found) → found_from (is_session_of message.to from) 0 state.sessions ≡ o → Leaves (in_found state message o)
  found_leaves message None is = silent_leaves
  found_leaves message (Some found) is =
      let there = (found_is (is_session_of message.to from) 0 state.sessions found is).1 in
      let at : session_at state found.place ≡ Some found.session = ap (λ (k : ℕ). get_or state.sessions k None) (let same : found.place ≡ found.place - 0 = omega arith in same) ∙ there in
      let step = in_session state.users state.moment message found.session in
      let heeds = heard_heeds state.users state.moment message found.session (here (session_at state found.place) found.session at (keeps found.place)) in
      record {
        keeps = keeps_put state found.place found.session step.session at keeps heeds.few;
        says = let same = addressed_as found.session.address step.says in let few = heeds.says in omega arith;
        payload = step_payload found.place found.session step.session step.effect step.says at heeds.delivers;
      }

  received_leaves : (kind : MsgKind) (message : Message) → Leaves (received_as kind state from message)
  received_leaves Hello message = hello_leaves message.version message.remote_id message.algorithm
  received_leaves Challenge message = found_leaves message (found_from (is_session_of message.to from) 0 state.sessions) refl
  received_leaves Authenticate message = found_leaves message (found_from (is_session_of message.to from) 0 state.sessions) refl
  received_leaves Welcome message = found_leaves message (found_from (is_session_of message.to from) 0 state.sessions) refl
  received_leaves KeepAlive message = found_leaves message (found_from (is_session_of message.to from) 0 state.sessions) refl
  received_leaves Datagram message = found_leaves message (found_from (is_session_of message.to from) 0 state.sessions) refl
  received_leaves Close message = found_leaves message (found_from (is_session_of message.to from) 0 state.sessions) refl

-- ---- calls at a place

module _ (state : State) (keeps : KeepsWindows state) (place : ℕ) where
  call_keeps : (step : Session → Step) (o : Option Session) → session_at state place ≡ o → ((x : Session) → o ≡ Some x → IsFew (step x).session)
      → KeepsWindows (at_place_in state place step o).state
  call_keeps step None is few = keeps
  call_keeps step (Some x) is few = keeps_put state place x (step x).session is keeps (few x refl)

  call_says : (step : Session → Step) (o : Option Session) → ((x : Session) → length (step x).says ≤ 1) → length (at_place_in state place step o).letters ≤ 1
  call_says step None few = omega arith
  call_says step (Some x) few = let same = addressed_as x.address (step x).says in let one = few x in omega arith

  post_says : (bytes : List ℕ) → length (post_of state place bytes).letters ≤ 1
  post_says bytes = call_says (posted_in state.moment bytes) (session_at state place) (λ x. omega arith)

  post_keeps : (bytes : List ℕ) (x : Session) → session_at state place ≡ Some x → open_count x.posted < 31 → KeepsWindows (post_of state place bytes).state
  post_keeps bytes x is room =
      call_keeps (posted_in state.moment bytes) (session_at state place) refl (λ y there.
      let same : y ≡ x = some_eq y x (sym there ∙ is) in
      let pushed = open_pushed y.posted bytes state.moment in
      let equal : open_count y.posted ≡ open_count x.posted = ap (λ (z : Session). open_count z.posted) same in
      omega arith)
    where
      some_eq : (a b : Session) → ◌≡◌ {A = Option Session} (Some a) (Some b) → a ≡ b
      some_eq a b e = cc

-- ---- a datagram

module _ (m : Meaning) (s : Setup) where
  handed_few : (wish : Wish) (mishap : Mishap) (n : Node) (sent : List Letter) (handing : Handing) → KeepsWindows n.sessions → length sent ≤ 1
      → ByHanding n.sessions sent handing
      → (length (handed m s wish mishap n sent handing).sent ≤ 1) × KeepsWindows (handed m s wish mishap n sent handing).node.sessions
  handed_few wish mishap n sent none keeps says by = (says, keeps)
  handed_few wish mishap n sent (ended_at place) keeps says by = (says, keeps)
  handed_few wish mishap n sent (payload_at place payload) keeps says by =
      let bytes = answered_text (number_in payload) (served m s n place wish mishap).reply in
      let one = post_says n.sessions keeps place bytes in
      let both = length-append sent (post_of n.sessions place bytes).letters in
      let nothing_said = by.3 in
      (omega arith, post_keeps n.sessions keeps place bytes by.0 by.1 by.2)

  pub delivered_few : (n : Node) (from : Addr) (heard : Option Heard) (mishap : Mishap) → KeepsWindows n.sessions
      → (length (delivered m s n from heard mishap).sent ≤ 1) × KeepsWindows (delivered m s n from heard mishap).node.sessions
  delivered_few n from None mishap keeps = (omega arith, keeps)
  delivered_few n from (Some heard) mishap keeps =
      let outcome = received n.sessions from (Some heard.message) in
      let leaves = received_leaves n.sessions keeps from heard.message.kind heard.message in
      handed_few heard.wish mishap (record n { sessions = outcome.state }) outcome.letters outcome.handing leaves.keeps leaves.says leaves.payload

-- ---- a place at a tick

-- so many messages were sent at a place, from so many on
abbrev Bound : Option Session → ℕ → ℕ → Type 0
Bound None base n = n ≤ base + 31
Bound (Some x) base n = (n + (31 - open_count x.posted) ≤ base + 31) × (open_count x.posted ≤ 31) × (x.owed ≡ true → n ≡ base)

bound_few : (o : Option Session) (base n : ℕ) → Bound o base n → IsFew o
bound_few None base n bound = tt {0}
bound_few (Some x) base n bound = bound.1

bound_is : (o p : Option Session) (base n k : ℕ) → o ≡ p → n ≡ k → Bound o base n → Bound p base k
bound_is o p base n k is same bound = subst (λ (z : Option Session). Bound z base k) is (subst (λ (z : ℕ). Bound o base z) same bound)

bound_end : (o : Option Session) (base n : ℕ) → Bound o base n → n ≤ base + 31
bound_end None base n bound = bound
bound_end (Some x) base n bound = let sum = bound.0 in omega arith

-- what a step of the session makes of it
abbrev After : (Session → Step) → Option Session → ℕ → ℕ → Type 0
After step None base n = Bound None base n
After step (Some x) base n = Bound (step x).session base (n + length (step x).says)

abbrev no_letters : List Letter
no_letters = []

abbrev At : ℕ → ℕ → Telling → Type 0
At place base t = Bound (session_at t.node.sessions place) base (length t.sent)

module _ (place base : ℕ) where
  call_bound : (t : Telling) (step : Session → Step) (o : Option Session) → session_at t.node.sessions place ≡ o → After step o base (length t.sent)
      → At place base (then_call t (at_place_in t.node.sessions place step o))
  call_bound t step None is after =
      bound_is None (session_at t.node.sessions place) base (length t.sent) (length (t.sent ++ [])) (sym is)
      (let both = length-append t.sent no_letters in let none_more : length t.sent ≡ length (t.sent ++ []) = omega arith in none_more) after
  call_bound t step (Some x) is after =
      bound_is (step x).session (get_or (set t.node.sessions.sessions place (step x).session) place None) base (length t.sent + length (step x).says)
      (length (t.sent ++ addressed x.address (step x).says))
      (sym (set_here t.node.sessions.sessions place x (step x).session is))
      (let both = length-append t.sent (addressed x.address (step x).says) in
      let same = addressed_as x.address (step x).says in
      let sum : length t.sent + length (step x).says ≡ length (t.sent ++ addressed x.address (step x).says) = omega arith in sum)
      after

  -- timeouts and resends
  tick_after : (moment : ℤ) (o : Option Session) → IsFew o → After (ticked_in moment) o base base
  tick_after moment None few = omega arith
  tick_after moment (Some x) few = by_test (is_over moment x)
    where
      again : open_count (map (again_if_due moment) x.posted) ≡ open_count x.posted
      again = open_again moment x.posted

      sent : length (resends x.remote_id x.taken moment 0 x.posted) ≤ open_count x.posted
      sent = resends_few x.remote_id x.taken moment 0 x.posted

      owed_none : (a b : Bool) → (a && not b) ≡ true → b ≡ false
      owed_none true false is = refl
      owed_none true true is = absurd (let no : false ≡ true = is in cc)
      owed_none false b is = absurd (let no : false ≡ true = is in cc)

      by_test : (b : Bool) → Bound (if b then ends (close x.remote_id (Some 0xe5) ∷ []) else sent_all moment x).session base
          (base + length (if b then ends (close x.remote_id (Some 0xe5) ∷ []) else sent_all moment x).says)
      by_test true = omega arith
      by_test false = (
        let same = again in let few_sent = sent in let most = few in omega arith,
        let same = again in let most = few in omega arith,
        λ owed.
            let none_sent = none_due x.remote_id x.taken moment 0 x.posted (owed_none x.owed (list_any (is_due moment) x.posted) owed) in omega arith,
      )

  unended : (handing : Handing) (t : Telling) → At place base t → At place base (without_ended handing t)
  unended none t at = at
  unended (ended_at other) t at = at
  unended (payload_at other payload) t at = at

  timed_bound : (t : Telling) → KeepsWindows t.node.sessions → length t.sent ≡ base → At place base (timed place t)
  timed_bound t keeps is =
      let outcome = tick_of t.node.sessions place in
      unended outcome.handing (then_call t outcome)
      (call_bound t (ticked_in t.node.sessions.moment) (session_at t.node.sessions place) refl
      (subst (λ (k : ℕ). After (ticked_in t.node.sessions.moment) (session_at t.node.sessions place) base k) (sym is)
      (tick_after t.node.sessions.moment (session_at t.node.sessions place) (keeps place))))

  -- an event
  post_after : (moment : ℤ) (bytes : List ℕ) (o : Option Session) (n : ℕ) → option_map_or (λ (x : Session). has_room x.posted) o false ≡ true → Bound o base n
      → After (posted_in moment bytes) o base n
  post_after moment bytes None n room bound = bound
  post_after moment bytes (Some x) n room bound =
      let few = room_is x.posted room in
      let pushed = open_pushed x.posted bytes moment in
      let sum = bound.0 in
      (omega arith, omega arith, λ owed. absurd (let no : false ≡ true = owed in cc))

  first_true : (a b : Bool) → (a && b) ≡ true → a ≡ true
  first_true true b is = refl
  first_true false b is = absurd (let no : false ≡ true = is in cc)

  part_bound : (m : Meaning) (t : Telling) (p : PartAt) → At place base t → At place base (told_if_due m place t p)
  part_bound m t p at = by_test (has_room_at t.node.sessions place && is_due_of m t.node.application t.node.subscriptions place p.id p.part) refl
    where
      by_test : (b : Bool) → (has_room_at t.node.sessions place && is_due_of m t.node.application t.node.subscriptions place p.id p.part) ≡ b
          → At place base (if b then told place p.id p.part (bytes_of m t.node.application p.id p.part) t else t)
      by_test true is =
          let bytes = bytes_of m t.node.application p.id p.part in
          let event = event_bytes p.id (letter_of p.part) bytes in
          call_bound (with_last place p.id p.part bytes t) (posted_in t.node.sessions.moment event) (session_at t.node.sessions place) refl
          (post_after t.node.sessions.moment event (session_at t.node.sessions place) (length t.sent)
          (first_true (has_room_at t.node.sessions place) (is_due_of m t.node.application t.node.subscriptions place p.id p.part) is) at)
      by_test false is = at

  parts_bound : (m : Meaning) (parts : List PartAt) (t : Telling) → At place base t → At place base (fold (told_if_due m place) t parts)
  parts_bound m [] t at = at
  parts_bound m (p ∷ parts) t at = parts_bound m parts (told_if_due m place t p) (part_bound m t p at)

  -- a keepAlive
  kept_bound : (t : Telling) → At place base t → length (kept_up place t).sent ≤ base + 31
  kept_bound t at = by_session (session_at t.node.sessions place) at
    where
      by_owed : (x : Session) (b : Bool) → (b ≡ true → length t.sent ≡ base) → length t.sent ≤ base + 31
          → length (t.sent ++ addressed x.address (if b then record { session = Some (record x { owed = false }); says = keep_alive x.remote_id x.taken ∷ []; effect = nothing } else silent x).says) ≤ base + 31
      by_owed x true is most = let both = length-append t.sent (addressed x.address (keep_alive x.remote_id x.taken ∷ [])) in let same = is refl in omega arith
      by_owed x false is most = let both = length-append t.sent no_letters in omega arith

      by_session : (o : Option Session) → Bound o base (length t.sent) → length (then_call t (at_place_in t.node.sessions place kept_in o)).sent ≤ base + 31
      by_session None bound = let both = length-append t.sent no_letters in let most : length t.sent ≤ base + 31 = bound in omega arith
      by_session (Some x) bound = by_owed x x.owed bound.2 (bound_end (Some x) base (length t.sent) bound)

module _ (m : Meaning) where
  pub place_few : (t : Telling) (place : ℕ) → KeepsWindows t.node.sessions → length (at_place m t place).sent ≤ length t.sent + 31
  place_few t place keeps =
      kept_bound place (length t.sent) (told_all m place (timed place t))
      (parts_bound place (length t.sent) m (parts_of (timed place t).node.application) (timed place t)
      (timed_bound place (length t.sent) t keeps refl))

-- ---- the windows at a tick

module _ (place : ℕ) where
  unended_keeps : (handing : Handing) (t : Telling) → KeepsWindows t.node.sessions → KeepsWindows (without_ended handing t).node.sessions
  unended_keeps none t keeps = keeps
  unended_keeps (ended_at other) t keeps = keeps
  unended_keeps (payload_at other payload) t keeps = keeps

  timed_keeps : (t : Telling) → KeepsWindows t.node.sessions → KeepsWindows (timed place t).node.sessions
  timed_keeps t keeps =
      let outcome = tick_of t.node.sessions place in
      unended_keeps outcome.handing (then_call t outcome)
      (call_keeps t.node.sessions keeps place (ticked_in t.node.sessions.moment) (session_at t.node.sessions place) refl (λ x is.
      bound_few (ticked_in t.node.sessions.moment x).session 0 (0 + length (ticked_in t.node.sessions.moment x).says)
      (tick_after place 0 t.node.sessions.moment (Some x) (here (session_at t.node.sessions place) x is (keeps place)))))

  part_keeps : (m : Meaning) (t : Telling) (p : PartAt) → KeepsWindows t.node.sessions → KeepsWindows (told_if_due m place t p).node.sessions
  part_keeps m t p keeps = by_test (has_room_at t.node.sessions place && is_due_of m t.node.application t.node.subscriptions place p.id p.part) refl
    where
      by_session : (o : Option Session) (bytes : List ℕ) → session_at t.node.sessions place ≡ o → option_map_or (λ (x : Session). has_room x.posted) o false ≡ true
          → KeepsWindows (post_of t.node.sessions place bytes).state
      by_session None bytes is room = absurd (let no : false ≡ true = room in cc)
      by_session (Some x) bytes is room = post_keeps t.node.sessions keeps place bytes x is (room_is x.posted room)

      by_test : (b : Bool) → (has_room_at t.node.sessions place && is_due_of m t.node.application t.node.subscriptions place p.id p.part) ≡ b
          → KeepsWindows (if b then told place p.id p.part (bytes_of m t.node.application p.id p.part) t else t).node.sessions
      by_test true is =
          by_session (session_at t.node.sessions place) (event_bytes p.id (letter_of p.part) (bytes_of m t.node.application p.id p.part)) refl
          (first_true place 0 (has_room_at t.node.sessions place) (is_due_of m t.node.application t.node.subscriptions place p.id p.part) is)
      by_test false is = keeps

  parts_keep : (m : Meaning) (parts : List PartAt) (t : Telling) → KeepsWindows t.node.sessions → KeepsWindows (fold (told_if_due m place) t parts).node.sessions
  parts_keep m [] t keeps = keeps
  parts_keep m (p ∷ parts) t keeps = parts_keep m parts (told_if_due m place t p) (part_keeps m t p keeps)

  kept_keeps : (t : Telling) → KeepsWindows t.node.sessions → KeepsWindows (kept_up place t).node.sessions
  kept_keeps t keeps =
      call_keeps t.node.sessions keeps place kept_in (session_at t.node.sessions place) refl
      (λ x is. by_owed x x.owed (here (session_at t.node.sessions place) x is (keeps place)))
    where
      by_owed : (x : Session) (b : Bool) → open_count x.posted ≤ 31
          → IsFew (if b then record { session = Some (record x { owed = false }); says = keep_alive x.remote_id x.taken ∷ []; effect = nothing } else silent x).session
      by_owed x true few = few
      by_owed x false few = few

module _ (m : Meaning) where
  pub place_keeps : (t : Telling) (place : ℕ) → KeepsWindows t.node.sessions → KeepsWindows (at_place m t place).node.sessions
  place_keeps t place keeps =
      kept_keeps place (told_all m place (timed place t)) (parts_keep place m (parts_of (timed place t).node.application) (timed place t) (timed_keeps place t keeps))

  places_few : (some : List ℕ) (t : Telling) → KeepsWindows t.node.sessions
      → (length (fold (at_place m) t some).sent ≤ length t.sent + 31 * length some) × KeepsWindows (fold (at_place m) t some).node.sessions
  places_few [] t keeps = (omega arith, keeps)
  places_few (place ∷ some) t keeps =
      let one = place_few m t place keeps in
      let rest = places_few some (at_place m t place) (place_keeps t place keeps) in
      let more = rest.0 in
      (omega arith, rest.1)

-- ---- a run

module _ (m : Meaning) (s : Setup) where
  pub ticked_few : (n : Node) (moment : ℤ) → KeepsWindows n.sessions → (length (ticked m s n moment).sent ≤ 496) × KeepsWindows (ticked m s n moment).node.sessions
  ticked_few n moment keeps =
      let now : Node = advanced_to moment n in
      places_few m places (record { node = record now { application = (cycle_of m s now).application }; sent = [] }) keeps

  pub run_keeps : (n : Node) (events : List Event) → KeepsWindows n.sessions → KeepsWindows (run m s n events).node.sessions
  run_keeps n [] keeps = keeps
  run_keeps n (comes from heard mishap ∷ events) keeps =
      run_keeps (one_event m s n (comes from heard mishap)).node events (delivered_few m s n from heard mishap keeps).1
  run_keeps n (passes moment ∷ events) keeps = run_keeps (one_event m s n (passes moment)).node events (ticked_few n moment keeps).1

abbrev nobody : Option Session
nobody = None

pub nobody_few : (k q : ℕ) → IsFew (get_or (replicate k nobody) q None)
nobody_few zero q = tt {0}
nobody_few (suc k) zero = tt {0}
nobody_few (suc k) (suc q) = nobody_few k q
