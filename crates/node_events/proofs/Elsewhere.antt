-- Other places than the one that an event has to do with.
use Rattle.std.proofs.Common.{◌≡◌, ◌≢◌, ◌-◌, ℕ, suc, inl, inr, Bool, true, false, List, [], ◌∷◌, length, get_or, refl, sym, ◌∙◌, ap, arith}
use Rattle.std.specs.Prelude.{ℤ, ◌⊎◌, ◌==◌, ◌&&◌, not, is_some, Option, Some, None, if◌then◌else◌}
use Rattle.std.specs.List.{fold}
use Rattle.std.specs.Option.{option_map_or}
use Rattle.std.proofs.lemmas.List.{get_or-set_other}
use Rattle.sed_outside.specs.declared.addr.Addr.{Addr}
use Rattle.sed_engine.specs.Code.{Meaning}
use Rattle.comp_tree.specs.Application.{Application, is_live}
use Rattle.dasp_msg.specs.declared.kind.MsgKind.{MsgKind}
use Rattle.dasp_msg.specs.declared.kind.MsgKind.TheVariants.{Hello, Challenge, Authenticate, Welcome, KeepAlive, Datagram, Close}
use Rattle.dasp_msg.specs.Shown.{Message}
use Rattle.dasp_session.specs.Closing.{other_digest, other_version, too_many}
use Rattle.dasp_session.specs.Hearing.{Effect, nothing, ended, delivers, Step, in_session}
use Rattle.dasp_session.specs.Letters.{Letter, close}
use Rattle.dasp_session.specs.Looking.{Found, found_from, free_from, is_address, is_session_of, is_waiting_for, session_at}
use Rattle.dasp_session.specs.Receive.{Handing, Outcome, none, ended_at, payload_at, answers, at_place as at_place_in, challenged, handed_at, hello, in_found, is_sha_1, made_at, new_session, received, received_as, tick_of}
use Rattle.dasp_session.specs.Session.{Session, State}
use Rattle.dasp_session.specs.Ticking.{kept_up as kept_in, posted_in, ticked as ticked_in}
use Rattle.sub_table.specs.declared.part.Part.{Part}
use Rattle.sub_table.specs.declared.part.Part.TheVariants.{Tree, Config, Runtime, Links}
use Rattle.sub_table.specs.Events.{posted, subscribed}
use Rattle.sub_table.specs.Parts.{is_in, is_part}
use Rattle.sub_table.specs.Table.{Subscriptions, is_at, without_place}
use Rattle.sox_msg.specs.Answered.{Answered, answered_text}
use Rattle.sox_msg.specs.Command.{number_in}
use Rattle.sox_serve.specs.Answer.{Answer}
use Rattle.sox_serve.specs.declared.served.Served.{Served}
use Rattle.sox_serve.specs.declared.served.Served.TheVariants.{Replied, SaveAsked, Subscribe, Unsubscribe, Deleted}
use Rattle.node_events.specs.Delivering.{delivered, handed}
use Rattle.node_events.specs.Elsewhere.{IsAtOnePlace, SameSessionsBut, SameSubscribedBut, SubscribesNothing}
use Rattle.sox_events.specs.Due.{letter_of}
use Rattle.sox_msg.specs.Reply.{event_bytes}
use Rattle.node_events.specs.Events.{PartAt, Telling, bytes_of, differs_from, has_room_at, is_due, parts_of, then_call, told, told_all, told_if_due}
use Rattle.node_events.specs.Heard.{Heard, Wish, asks, is_refused}
use Rattle.node_events.specs.Mishap.{Mishap}
use Rattle.node_events.specs.Node.{Node, Setup}
use Rattle.node_events.specs.Serving.{done_by, given, served, subscribed_after}
use Rattle.node_events.specs.Ticking.{advanced_to, at_place, cycle_of, places, ticked, timed, without_ended}
use Rattle.node_events.proofs.OpenSessions.{Sessions, found_is, free_is, within}
use Rattle.node_events.proofs.Truths.{both_true, no_true, other_number, same_number}

-- ---- sessions

-- a session that is found passes its test
pub found_passes : (test : Session → Bool) (at : ℕ) (xs : Sessions) (found : Found) → found_from test at xs ≡ Some found → test found.session ≡ true
found_passes test at [] found is = absurd (let no : ◌≡◌ {A = Option Found} None (Some found) = is in cc)
found_passes test at (None ∷ xs) found is = found_passes test (suc at) xs found is
found_passes test at (Some x ∷ xs) found is = by_test (test x) refl (found_passes test (suc at) xs found) is
  where
    some_eq : (a b : Found) → ◌≡◌ {A = Option Found} (Some a) (Some b) → a ≡ b
    some_eq a b is = cc

    by_test : (b : Bool) → test x ≡ b → (found_from test (suc at) xs ≡ Some found → test found.session ≡ true)
        → (if b then Some (record { place = at; session = x }) else found_from test (suc at) xs) ≡ Some found → test found.session ≡ true
    by_test true passes later is = sym (ap (λ (f : Found). test f.session) (some_eq (record { place = at; session = x }) found is)) ∙ passes
    by_test false passes later is = later is

-- a call at a place
call_beside : (state : State) (place : ℕ) (step : Session → Step) (o : Option Session) → SameSessionsBut place state (at_place_in state place step o).state
call_beside state place step None = λ other ne. refl
call_beside state place step (Some x) = λ other ne. get_or-set_other state.sessions place other (step x).session None ne

-- what is handed on is of the place
abbrev IsOf : ℕ → Handing → Type 0
IsOf place none = Unit {0}
IsOf place (ended_at p) = p ≡ place
IsOf place (payload_at p bytes) = p ≡ place

record OnePlace (from : Addr) (before : State) (after : State) (handing : Handing) : Type 0 where
  place : ℕ
  own : (x : Session) → session_at before place ≡ Some x → is_address x.address from ≡ true
  elsewhere : SameSessionsBut place before after
  handed : IsOf place handing

module _ (state : State) (from : Addr) where
  abbrev Fine : Outcome → Type 0
  Fine outcome = OnePlace from state outcome.state outcome.handing

  calm : OnePlace from state state none
  calm = record {
    place = length state.sessions;
    own = λ x is. absurd (let less = within state.sessions (length state.sessions) x is in omega arith);
    elsewhere = λ other ne. refl;
    handed = tt {0};
  }

  either : (b : Bool) (x y : Outcome) → Fine x → Fine y → Fine (if b then x else y)
  either true x y one other = one
  either false x y one other = other

  made_fine : (remote_id : ℕ) (o : Option ℕ) → free_from 0 state.sessions ≡ o → Fine (made_at state from remote_id o)
  made_fine remote_id None is = calm
  made_fine remote_id (Some place) is = record {
    place = place;
    own = λ x there.
        absurd (
        let free = (free_is 0 place state.sessions is).1 in
        let no : ◌≡◌ {A = Option Session} None (Some x) =
        sym free ∙ ap (λ (k : ℕ). get_or state.sessions k None) (let same : place - 0 ≡ place = omega arith in same) ∙ there in
        cc);
    elsewhere = λ other ne. get_or-set_other state.sessions place other (Some (new_session state from remote_id place)) None ne;
    handed = tt {0};
  }

  challenged_fine : (remote_id : ℕ) (o : Option Found) → Fine (challenged state from remote_id o)
  challenged_fine remote_id (Some found) = calm
  challenged_fine remote_id None =
      either (state.made == 4294967295) (answers state from (close remote_id (Some too_many))) (made_at state from remote_id (free_from 0 state.sessions))
      calm (made_fine remote_id (free_from 0 state.sessions) refl)

  hello_fine : (version remote_id : Option ℕ) (algorithm : Option (List ℕ)) → Fine (hello state from version remote_id algorithm)
  hello_fine None remote_id algorithm = calm
  hello_fine (Some version) None algorithm = calm
  hello_fine (Some version) (Some remote_id) algorithm =
      either (not (version == 0x0100)) (answers state from (close remote_id (Some other_version)))
      (if not (is_sha_1 algorithm) then answers state from (close remote_id (Some other_digest))
      else challenged state from remote_id (found_from (is_waiting_for from remote_id) 0 state.sessions))
      calm
      (either (not (is_sha_1 algorithm)) (answers state from (close remote_id (Some other_digest)))
      (challenged state from remote_id (found_from (is_waiting_for from remote_id) 0 state.sessions)) calm
      (challenged_fine remote_id (found_from (is_waiting_for from remote_id) 0 state.sessions)))

  of_step : (place : ℕ) (effect : Effect) → IsOf place (handed_at place effect)
  of_step place nothing = tt {0}
  of_step place ended = refl
  of_step place (delivers bytes) = refl

  found_fine : (message : Message) (o : Option Found) → found_from (is_session_of message.to from) 0 state.sessions ≡ o → Fine (in_found state message o)
  found_fine message None is = calm
  found_fine message (Some found) is =
      let there = (found_is (is_session_of message.to from) 0 state.sessions found is).1 in
      let at : session_at state found.place ≡ Some found.session = ap (λ (k : ℕ). get_or state.sessions k None) (let same : found.place ≡ found.place - 0 = omega arith in same) ∙ there in
      let step = in_session state.users state.moment message found.session in
      let passes = found_passes (is_session_of message.to from) 0 state.sessions found is in
      record {
        place = found.place;
        own = λ x is_there.
            ap (λ (y : Session). is_address y.address from) (some_eq x found.session (sym is_there ∙ at))
            ∙ (both_true (found.session.id == message.to) (is_address found.session.address from) passes).1;
        elsewhere = λ other ne. get_or-set_other state.sessions found.place other step.session None ne;
        handed = of_step found.place step.effect;
      }
    where
      some_eq : (a b : Session) → ◌≡◌ {A = Option Session} (Some a) (Some b) → a ≡ b
      some_eq a b e = cc

  received_fine : (kind : MsgKind) (message : Message) → Fine (received_as kind state from message)
  received_fine Hello message = hello_fine message.version message.remote_id message.algorithm
  received_fine Challenge message = found_fine message (found_from (is_session_of message.to from) 0 state.sessions) refl
  received_fine Authenticate message = found_fine message (found_from (is_session_of message.to from) 0 state.sessions) refl
  received_fine Welcome message = found_fine message (found_from (is_session_of message.to from) 0 state.sessions) refl
  received_fine KeepAlive message = found_fine message (found_from (is_session_of message.to from) 0 state.sessions) refl
  received_fine Datagram message = found_fine message (found_from (is_session_of message.to from) 0 state.sessions) refl
  received_fine Close message = found_fine message (found_from (is_session_of message.to from) 0 state.sessions) refl

-- ---- a datagram

module _ (m : Meaning) (s : Setup) where
  abbrev Loses : ℕ → Subscriptions → Application → Subscriptions → Type 0
  Loses place before a after =
      (other id : ℕ) (part : Part) → other ≢ place
      → (after other id part ≡ before other id part) ⊎ ((is_live a.components.by_id id ≡ false) × (after other id part ≡ None))

  served_loses : (x : Served) (place : ℕ) (a : Application) (subs : Subscriptions) → Loses place subs a (subscribed_after x place a subs)
  served_loses Replied place a subs other i part ne = inl refl
  served_loses SaveAsked place a subs other i part ne = inl refl
  served_loses (Subscribe id mask) place a subs other i part ne =
      inl (ap (λ (b : Bool). if b && i == id.0 && is_in mask part then subscribed (subs other i part) else subs other i part) (other_number other place ne))
  served_loses (Unsubscribe id mask) place a subs other i part ne =
      inl (ap (λ (b : Bool). if b && i == id.0 && is_in mask part then None else subs other i part) (other_number other place ne))
  served_loses Deleted place a subs other i part ne = by_test (is_live a.components.by_id i) refl
    where
      by_test : (b : Bool) → is_live a.components.by_id i ≡ b
          → ((if b then subs other i part else None) ≡ subs other i part) ⊎ ((is_live a.components.by_id i ≡ false) × ((if b then subs other i part else None) ≡ None))
      by_test true is = inl refl
      by_test false is = inr (is, refl)

  serving_loses : (n : Node) (place : ℕ) (wish : Wish) (mishap : Mishap)
      → Loses place n.subscriptions (served m s n place wish mishap).application (served m s n place wish mishap).subscriptions
  serving_loses n place (is_refused refusal) mishap = λ other id part ne. inl refl
  serving_loses n place (asks asked) mishap = by_reply (given m s n asked mishap) (given m s n asked mishap).reply
    where
      by_reply : (x : Answer) (reply : Option Answered) → Loses place n.subscriptions (done_by m s n place mishap x reply).application (done_by m s n place mishap x reply).subscriptions
      by_reply x (Some reply) = served_loses x.served place x.application n.subscriptions
      by_reply x None = λ other id part ne. inl refl

  handed_one : (from : Addr) (before n : Node) (wish : Wish) (mishap : Mishap) (sent : List Letter) (handing : Handing)
      → OnePlace from before.sessions n.sessions handing → IsAtOnePlace from (record n { sessions = before.sessions }) (handed m s wish mishap n sent handing).node
  handed_one from before n wish mishap sent none one = record {
    place = one.place;
    own = one.own;
    sessions = one.elsewhere;
    subscriptions = λ other id part ne. inl refl;
  }
  handed_one from before n wish mishap sent (ended_at place) one = record {
    place = one.place;
    own = one.own;
    sessions = one.elsewhere;
    subscriptions = λ other id part ne.
        inl (ap (λ (b : Bool). if b then None else n.subscriptions other id part) (other_number other place (λ e. ne (e ∙ one.handed))));
  }
  handed_one from before n wish mishap sent (payload_at place payload) one =
      let text = answered_text (number_in payload) (served m s n place wish mishap).reply in
      record {
        place = one.place;
        own = one.own;
        sessions = λ other ne.
            call_beside n.sessions place (posted_in n.sessions.moment text) (session_at n.sessions place) other (λ e. ne (e ∙ one.handed))
            ∙ one.elsewhere other ne;
        subscriptions = λ other id part ne. serving_loses n place wish mishap other id part (λ e. ne (e ∙ one.handed));
      }

  pub delivered_one : (n : Node) (from : Addr) (heard : Option Heard) (mishap : Mishap) → IsAtOnePlace from n (delivered m s n from heard mishap).node
  delivered_one n from None mishap = record {
    place = (calm n.sessions from).place;
    own = (calm n.sessions from).own;
    sessions = λ other ne. refl;
    subscriptions = λ other id part ne. inl refl;
  }
  delivered_one n from (Some heard) mishap =
      let outcome = received n.sessions from (Some heard.message) in
      handed_one from n (record n { sessions = outcome.state }) heard.wish mishap outcome.letters outcome.handing
      (received_fine n.sessions from heard.message.kind heard.message)

-- ---- a tick, at a place

pub record Beside (place : ℕ) (before after : Node) : Type 0 where
  pub sessions : SameSessionsBut place before.sessions after.sessions
  pub subscriptions : SameSubscribedBut place before.subscriptions after.subscriptions

then_beside : (place : ℕ) (x y z : Node) → Beside place x y → Beside place y z → Beside place x z
then_beside place x y z one next = record {
  sessions = λ other ne. next.sessions other ne ∙ one.sessions other ne;
  subscriptions = λ other id part ne. next.subscriptions other id part ne ∙ one.subscriptions other id part ne;
}

call_beside_in : (place : ℕ) (t : Telling) (step : Session → Step) → Beside place t.node (then_call t (at_place_in t.node.sessions place step (session_at t.node.sessions place))).node
call_beside_in place t step = record {
  sessions = call_beside t.node.sessions place step (session_at t.node.sessions place);
  subscriptions = λ other id part ne. refl;
}

ended_beside : (place : ℕ) (handing : Handing) (t : Telling) → IsOf place handing → Beside place t.node (without_ended handing t).node
ended_beside place none t is = record { sessions = λ other ne. refl; subscriptions = λ other id part ne. refl }
ended_beside place (ended_at p) t is = record {
  sessions = λ other ne. refl;
  subscriptions = λ other id part ne.
      ap (λ (b : Bool). if b then None else t.node.subscriptions other id part) (other_number other p (λ e. ne (e ∙ is)));
}
ended_beside place (payload_at p bytes) t is = record { sessions = λ other ne. refl; subscriptions = λ other id part ne. refl }

call_of : (state : State) (place : ℕ) (step : Session → Step) (o : Option Session) → IsOf place (at_place_in state place step o).handing
call_of state place step None = tt {0}
call_of state place step (Some x) = by_effect (step x).effect
  where
    by_effect : (effect : Effect) → IsOf place (handed_at place effect)
    by_effect nothing = tt {0}
    by_effect ended = refl
    by_effect (delivers bytes) = refl

module _ (m : Meaning) (place : ℕ) where
  timed_beside : (t : Telling) → Beside place t.node (timed place t).node
  timed_beside t =
      let outcome = tick_of t.node.sessions place in
      then_beside place t.node (then_call t outcome).node (timed place t).node (call_beside_in place t (ticked_in t.node.sessions.moment))
      (ended_beside place outcome.handing (then_call t outcome)
      (call_of t.node.sessions place (ticked_in t.node.sessions.moment) (session_at t.node.sessions place)))

  part_beside : (t : Telling) (p : PartAt) → Beside place t.node (told_if_due m place t p).node
  part_beside t p = by_test (has_room_at t.node.sessions place && is_due m t.node.application t.node.subscriptions place p.id p.part)
    where
      bytes : List ℕ
      bytes = bytes_of m t.node.application p.id p.part

      by_test : (b : Bool) → Beside place t.node (if b then told place p.id p.part (bytes_of m t.node.application p.id p.part) t else t).node
      by_test true = record {
        sessions = call_beside t.node.sessions place (posted_in t.node.sessions.moment (event_bytes p.id (letter_of p.part) bytes)) (session_at t.node.sessions place);
        subscriptions = λ other id part ne.
            ap (λ (b : Bool). if b && id == p.id && is_part p.part part then posted bytes (t.node.subscriptions other id part) else t.node.subscriptions other id part)
            (other_number other place ne);
      }
      by_test false = record { sessions = λ other ne. refl; subscriptions = λ other id part ne. refl }

  parts_beside : (parts : List PartAt) (t : Telling) → Beside place t.node (fold (told_if_due m place) t parts).node
  parts_beside [] t = record { sessions = λ other ne. refl; subscriptions = λ other id part ne. refl }
  parts_beside (p ∷ parts) t =
      then_beside place t.node (told_if_due m place t p).node (fold (told_if_due m place) (told_if_due m place t p) parts).node (part_beside t p)
      (parts_beside parts (told_if_due m place t p))

  pub place_beside : (t : Telling) → Beside place t.node (at_place m t place).node
  place_beside t =
      let all = told_all m place (timed place t) in
      then_beside place t.node (timed place t).node (at_place m t place).node (timed_beside t)
      (then_beside place (timed place t).node all.node (at_place m t place).node (parts_beside (parts_of (timed place t).node.application) (timed place t))
      (call_beside_in place all kept_in))

-- ---- a tick subscribes nothing

same_part : (one other : Part) → is_part one other ≡ true → one ≡ other
same_part Tree Tree is = refl
same_part Tree Config is = absurd (no_true is)
same_part Tree Runtime is = absurd (no_true is)
same_part Tree Links is = absurd (no_true is)
same_part Config Tree is = absurd (no_true is)
same_part Config Config is = refl
same_part Config Runtime is = absurd (no_true is)
same_part Config Links is = absurd (no_true is)
same_part Runtime Tree is = absurd (no_true is)
same_part Runtime Config is = absurd (no_true is)
same_part Runtime Runtime is = refl
same_part Runtime Links is = absurd (no_true is)
same_part Links Tree is = absurd (no_true is)
same_part Links Config is = absurd (no_true is)
same_part Links Runtime is = absurd (no_true is)
same_part Links Links is = refl

due_is_subscribed : (bytes : List ℕ) (o : Option (Option (List ℕ))) → option_map_or (differs_from bytes) o false ≡ true → is_some o ≡ true
due_is_subscribed bytes None is = is
due_is_subscribed bytes (Some last) is = refl

pub without_less : (place : ℕ) (subs : Subscriptions) → SubscribesNothing subs (without_place place subs)
without_less place subs p i part = by_test (p == place)
  where
    by_test : (b : Bool) → is_some (if b then None else subs p i part) ≡ true → is_some (subs p i part) ≡ true
    by_test true is = absurd (no_true is)
    by_test false is = is

ended_less : (handing : Handing) (t : Telling) → SubscribesNothing t.node.subscriptions (without_ended handing t).node.subscriptions
ended_less none t = λ p i part is. is
ended_less (ended_at place) t = without_less place t.node.subscriptions
ended_less (payload_at place payload) t = λ p i part is. is

module _ (m : Meaning) where
  part_less : (place : ℕ) (t : Telling) (p : PartAt) → SubscribesNothing t.node.subscriptions (told_if_due m place t p).node.subscriptions
  part_less place t p = by_test (has_room_at t.node.sessions place && is_due m t.node.application t.node.subscriptions place p.id p.part) refl
    where
      subs : Subscriptions
      subs = t.node.subscriptions

      bytes : List ℕ
      bytes = bytes_of m t.node.application p.id p.part

      is_there : (has_room_at t.node.sessions place && is_due m t.node.application t.node.subscriptions place p.id p.part) ≡ true
          → is_some (t.node.subscriptions place p.id p.part) ≡ true
      is_there is =
          let due = (both_true (has_room_at t.node.sessions place) (is_due m t.node.application t.node.subscriptions place p.id p.part) is).1 in
          due_is_subscribed (bytes_of m t.node.application p.id p.part) (t.node.subscriptions place p.id p.part)
          (both_true (is_live t.node.application.components.by_id p.id) _ due).1

      at_part : (b : Bool) (q i : ℕ) (part : Part) → (is_at place p.id q i && is_part p.part part) ≡ b
          → is_some (t.node.subscriptions place p.id p.part) ≡ true
          → is_some (if b then posted bytes (t.node.subscriptions q i part) else t.node.subscriptions q i part) ≡ true
          → is_some (t.node.subscriptions q i part) ≡ true
      at_part true q i part same there is =
          let two = both_true (is_at place p.id q i) (is_part p.part part) same in
          let at = both_true (q == place) (i == p.id) two.0 in
          ap (λ (k : ℕ). is_some (t.node.subscriptions k i part)) (same_number q place at.0)
          ∙ ap (λ (k : ℕ). is_some (t.node.subscriptions place k part)) (same_number i p.id at.1)
          ∙ ap (λ (other : Part). is_some (t.node.subscriptions place p.id other)) (sym (same_part p.part part two.1))
          ∙ there
      at_part false q i part same there is = is

      by_test : (b : Bool) → (has_room_at t.node.sessions place && is_due m t.node.application t.node.subscriptions place p.id p.part) ≡ b
          → SubscribesNothing t.node.subscriptions (if b then told place p.id p.part (bytes_of m t.node.application p.id p.part) t else t).node.subscriptions
      by_test true is = λ q i part some. at_part (is_at place p.id q i && is_part p.part part) q i part refl (is_there is) some
      by_test false is = λ q i part some. some

  parts_less : (place : ℕ) (parts : List PartAt) (t : Telling) → SubscribesNothing t.node.subscriptions (fold (told_if_due m place) t parts).node.subscriptions
  parts_less place [] t q i part is = is
  parts_less place (p ∷ parts) t q i part is = part_less place t p q i part (parts_less place parts (told_if_due m place t p) q i part is)

  place_less : (t : Telling) (place : ℕ) → SubscribesNothing t.node.subscriptions (at_place m t place).node.subscriptions
  place_less t place q i part is =
      let outcome = tick_of t.node.sessions place in
      ended_less outcome.handing (then_call t outcome) q i part
      (parts_less place (parts_of (timed place t).node.application) (timed place t) q i part is)

  places_less : (some : List ℕ) (t : Telling) → SubscribesNothing t.node.subscriptions (fold (at_place m) t some).node.subscriptions
  places_less [] t q i part is = is
  places_less (place ∷ some) t q i part is = place_less t place q i part (places_less some (at_place m t place) q i part is)

pub ticked_less : (m : Meaning) (s : Setup) (n : Node) (moment : ℤ) → SubscribesNothing n.subscriptions (ticked m s n moment).node.subscriptions
ticked_less m s n moment =
    let now : Node = advanced_to moment n in
    places_less m places (record { node = record now { application = (cycle_of m s now).application }; sent = [] })
