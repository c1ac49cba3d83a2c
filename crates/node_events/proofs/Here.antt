-- The session of the place that an event has to do with.
use Rattle.std.proofs.Common.{◌≡◌, ◌≢◌, ◌-◌, ℕ, Bool, true, false, List, [], ◌∷◌, get_or, refl, sym, ◌∙◌, ap, subst, arith}
use Rattle.std.specs.Prelude.{ℤ, ◌&&◌, Option, Some, None, if◌then◌else◌}
use Rattle.std.specs.List.{fold}
use Rattle.sed_outside.specs.declared.addr.Addr.{Addr}
use Rattle.sed_engine.specs.Code.{Meaning}
use Rattle.dasp_msg.specs.declared.kind.MsgKind.{MsgKind}
use Rattle.dasp_msg.specs.declared.kind.MsgKind.TheVariants.{Hello, Challenge, Authenticate, Welcome, KeepAlive, Datagram, Close}
use Rattle.dasp_msg.specs.Shown.{Message}
use Rattle.dasp_session.specs.Hearing.{Effect, nothing, ended, delivers, Step, in_session}
use Rattle.dasp_session.specs.Letters.{Letter, addressed}
use Rattle.dasp_session.specs.Looking.{Found, found_from, is_session_of, session_at}
use Rattle.dasp_session.specs.Receive.{Handing, Outcome, none, ended_at, payload_at, at_place as at_place_in, handed_at, in_found, received, received_as, steps, tick_of, told as told_in}
use Rattle.dasp_session.specs.Session.{Session, State}
use Rattle.dasp_session.specs.Ticking.{kept_up as kept_in, posted_in, ticked as ticked_in}
use Rattle.sox_events.specs.Due.{letter_of}
use Rattle.sox_msg.specs.Answered.{Answered, answered_text}
use Rattle.sox_msg.specs.Command.{number_in}
use Rattle.sox_msg.specs.Reply.{event_bytes}
use Rattle.node_events.specs.Delivering.{delivered, handed}
use Rattle.node_events.specs.Events.{PartAt, Telling, bytes_of, has_room_at, is_due, parts_of, then_call, told, told_all, told_if_due}
use Rattle.node_events.specs.Heard.{Heard, Wish}
use Rattle.node_events.specs.Here.{after_message, after_tick, all_posted, events_at, events_of, replied_in, stepped}
use Rattle.node_events.specs.Mishap.{Mishap}
use Rattle.node_events.specs.Node.{Node, Setup}
use Rattle.node_events.specs.Serving.{served}
use Rattle.node_events.specs.Ticking.{at_place, timed, without_ended}
use Rattle.node_events.proofs.FewSent.{set_here}
use Rattle.node_events.proofs.OpenSessions.{found_is}
use Rattle.node_events.proofs.Taking.{Delivers, answered_heeds}

-- ---- a call

-- a step of the session of a place, where one lives there
pub step_here : (state : State) (place : ℕ) (step : Session → Step)
    → session_at (at_place_in state place step (session_at state place)).state place ≡ stepped step (session_at state place)
step_here state place step = by_slot (session_at state place) refl
  where
    by_slot : (o : Option Session) → session_at state place ≡ o → session_at (at_place_in state place step o).state place ≡ stepped step o
    by_slot None is = is
    by_slot (Some x) is = set_here state.sessions place x (step x).session is

-- no step changes the moment
pub same_moment : (state : State) (place : ℕ) (step : Session → Step) → (at_place_in state place step (session_at state place)).state.moment ≡ state.moment
same_moment state place step = by_slot (session_at state place)
  where
    by_slot : (o : Option Session) → (at_place_in state place step o).state.moment ≡ state.moment
    by_slot None = refl
    by_slot (Some x) = refl

-- ---- a datagram

other_kind : (kind : MsgKind) (state : State) (from : Addr) (message : Message) → (kind ≡ Hello → ⊥) → received_as kind state from message ≡ told_in state from message
other_kind Hello state from message other = absurd (other refl)
other_kind Challenge state from message other = refl
other_kind Authenticate state from message other = refl
other_kind Welcome state from message other = refl
other_kind KeepAlive state from message other = refl
other_kind Datagram state from message other = refl
other_kind Close state from message other = refl

module _ (m : Meaning) (s : Setup) where
  -- what the sessions hand on changes the session of the place by a reply alone
  handed_here : (n : Node) (wish : Wish) (mishap : Mishap) (sent : List Letter) (place : ℕ) (payload : List ℕ) (effect : Effect)
      → ((bytes : List ℕ) → effect ≡ delivers bytes → bytes ≡ payload)
      → session_at (handed m s wish mishap n sent (handed_at place effect)).node.sessions place
      ≡ replied_in n.sessions.moment payload (handed m s wish mishap n sent (handed_at place effect)).reply (session_at n.sessions place)
  handed_here n wish mishap sent place payload nothing gives = refl
  handed_here n wish mishap sent place payload ended gives = refl
  handed_here n wish mishap sent place payload (delivers bytes) gives =
      let reply : Answered = (served m s n place wish mishap).reply in
      step_here n.sessions place (posted_in n.sessions.moment (answered_text (number_in bytes) reply))
      ∙ ap (λ (b : List ℕ). replied_in n.sessions.moment b (Some reply) (session_at n.sessions place)) (gives bytes refl)

  found_here : (n : Node) (message : Message) (wish : Wish) (mishap : Mishap) (found : Found) (from : Addr)
      → found_from (is_session_of message.to from) 0 n.sessions.sessions ≡ Some found
      → ((bytes : List ℕ) → (in_session n.sessions.users n.sessions.moment message found.session).effect ≡ delivers bytes → bytes ≡ message.payload)
      → let outcome : Outcome = steps n.sessions found (in_session n.sessions.users n.sessions.moment message found.session) in
      let d = handed m s wish mishap (record n { sessions = outcome.state }) outcome.letters outcome.handing in
      session_at d.node.sessions found.place
      ≡ after_message n.sessions.users n.sessions.moment message d.reply (session_at n.sessions found.place)
  found_here n message wish mishap found from is gives =
      let there = (found_is (is_session_of message.to from) 0 n.sessions.sessions found is).1 in
      let at : session_at n.sessions found.place ≡ Some found.session = ap (λ (k : ℕ). get_or n.sessions.sessions k None) (let same : found.place ≡ found.place - 0 = omega arith in same) ∙ there in
      let step : Step = in_session n.sessions.users n.sessions.moment message found.session in
      let outcome : Outcome = steps n.sessions found step in
      let d = handed m s wish mishap (record n { sessions = outcome.state }) outcome.letters outcome.handing in
      handed_here (record n { sessions = outcome.state }) wish mishap outcome.letters found.place message.payload step.effect gives
      ∙ ap (replied_in n.sessions.moment message.payload d.reply) (set_here n.sessions.sessions found.place found.session step.session at)
      ∙ ap (λ (o : Option Session). after_message n.sessions.users n.sessions.moment message d.reply o) (sym at)

  pub delivered_here : (n : Node) (from : Addr) (heard : Heard) (mishap : Mishap) (found : Found)
      → heard.message.kind ≢ Hello
      → found_from (is_session_of heard.message.to from) 0 n.sessions.sessions ≡ Some found
      → session_at (delivered m s n from (Some heard) mishap).node.sessions found.place
      ≡ after_message n.sessions.users n.sessions.moment heard.message (delivered m s n from (Some heard) mishap).reply (session_at n.sessions found.place)
  delivered_here n from heard mishap found other is =
      let message : Message = heard.message in
      let step : Step = in_session n.sessions.users n.sessions.moment message found.session in
      let heeds = answered_heeds n.sessions.moment message found.session message.kind n.sessions.users in
      let same : received n.sessions from (Some message) ≡ steps n.sessions found step =
      other_kind message.kind n.sessions from message other ∙ ap (in_found n.sessions message) is in
      subst (λ (outcome : Outcome).
      session_at (handed m s heard.wish mishap (record n { sessions = outcome.state }) outcome.letters outcome.handing).node.sessions found.place
      ≡ after_message n.sessions.users n.sessions.moment message
      (handed m s heard.wish mishap (record n { sessions = outcome.state }) outcome.letters outcome.handing).reply (session_at n.sessions found.place))
      (sym same)
      (found_here n message heard.wish mishap found from is
      (λ bytes gives. (subst (λ (effect : Effect). Delivers n.sessions.moment message found.session step.session step.says effect) gives heeds).2))

-- ---- a tick, at a place

ended_sessions : (handing : Handing) (t : Telling) → (without_ended handing t).node.sessions ≡ t.node.sessions
ended_sessions none t = refl
ended_sessions (ended_at place) t = refl
ended_sessions (payload_at place payload) t = refl

module _ (m : Meaning) (place : ℕ) where
  timed_is : (t : Telling) → (timed place t).node.sessions ≡ (tick_of t.node.sessions place).state
  timed_is t = let outcome : Outcome = tick_of t.node.sessions place in ended_sessions outcome.handing (then_call t outcome)

  timed_here : (t : Telling) → session_at (timed place t).node.sessions place ≡ stepped (ticked_in t.node.sessions.moment) (session_at t.node.sessions place)
  timed_here t =
      ap (λ (state : State). session_at state place) (timed_is t)
      ∙ step_here t.node.sessions place (ticked_in t.node.sessions.moment)

  timed_moment : (t : Telling) → (timed place t).node.sessions.moment ≡ t.node.sessions.moment
  timed_moment t = ap (λ (state : State). state.moment) (timed_is t) ∙ same_moment t.node.sessions place (ticked_in t.node.sessions.moment)

  parts_here : (parts : List PartAt) (t : Telling)
      → session_at (fold (told_if_due m place) t parts).node.sessions place
      ≡ all_posted t.node.sessions.moment (events_of m place t parts) (session_at t.node.sessions place)
  parts_here [] t = refl
  parts_here (p ∷ later) t =
      by_test (has_room_at t.node.sessions place && is_due m t.node.application t.node.subscriptions place p.id p.part)
      (parts_here later (told_if_due m place t p)) refl
    where
      bytes : List ℕ
      bytes = bytes_of m t.node.application p.id p.part

      event : List ℕ
      event = event_bytes p.id (letter_of p.part) bytes

      next : Telling
      next = told_if_due m place t p

      rest : List (List ℕ)
      rest = events_of m place (told_if_due m place t p) later

      by_test : (b : Bool)
          → session_at (fold (told_if_due m place) next later).node.sessions place ≡ all_posted next.node.sessions.moment rest (session_at next.node.sessions place)
          → (has_room_at t.node.sessions place && is_due m t.node.application t.node.subscriptions place p.id p.part) ≡ b
          → session_at (fold (told_if_due m place) (told_if_due m place t p) later).node.sessions place
          ≡ all_posted t.node.sessions.moment
          (if b then event_bytes p.id (letter_of p.part) (bytes_of m t.node.application p.id p.part) ∷ events_of m place (told_if_due m place t p) later
          else events_of m place (told_if_due m place t p) later)
          (session_at t.node.sessions place)
      by_test true behind is =
          let u : Telling = told place p.id p.part bytes t in
          let same : next ≡ u = ap (λ (b : Bool). if b then told place p.id p.part bytes t else t) is in
          let step : Session → Step = posted_in t.node.sessions.moment event in
          behind
          ∙ ap (λ (v : Telling). all_posted v.node.sessions.moment rest (session_at v.node.sessions place)) same
          ∙ ap (λ (k : ℤ). all_posted k rest (session_at u.node.sessions place)) (same_moment t.node.sessions place step)
          ∙ ap (all_posted t.node.sessions.moment rest) (step_here t.node.sessions place step)
      by_test false behind is =
          let same : next ≡ t = ap (λ (b : Bool). if b then told place p.id p.part bytes t else t) is in
          behind ∙ ap (λ (v : Telling). all_posted v.node.sessions.moment rest (session_at v.node.sessions place)) same

  pub place_here : (t : Telling) → session_at (at_place m t place).node.sessions place
      ≡ after_tick t.node.sessions.moment (events_at m t place) (session_at t.node.sessions place)
  place_here t =
      let all : Telling = told_all m place (timed place t) in
      step_here all.node.sessions place kept_in
      ∙ ap (stepped kept_in)
      (parts_here (parts_of (timed place t).node.application) (timed place t)
      ∙ ap (λ (k : ℤ). all_posted k (events_at m t place) (session_at (timed place t).node.sessions place)) (timed_moment t)
      ∙ ap (all_posted t.node.sessions.moment (events_at m t place)) (timed_here t))
