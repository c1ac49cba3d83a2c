-- Only sessions that live and are authenticated have subscribed anything, after each event.
use Rattle.std.proofs.Common.{◌≡◌, ◌≢◌, ℕ, inl, inr, Bool, true, false, List, [], ◌∷◌, refl, sym, ◌∙◌, ap, arith}
use Rattle.std.specs.Prelude.{◌==◌, ◌&&◌, Option, Some, None, if◌then◌else◌}
use Rattle.std.specs.List.{fold}
use Rattle.std.specs.Option.{option_map_or}
use Rattle.std.proofs.lemmas.Bool.{cases_eq}
use Rattle.std.proofs.lemmas.Bool.Decides.{nat_tests}
use Rattle.sed_outside.specs.declared.addr.Addr.{Addr}
use Rattle.sed_engine.specs.Code.{Meaning}
use Rattle.comp_tree.specs.Application.{Application, is_live}
use Rattle.sub_table.specs.declared.part.Part.{Part}
use Rattle.sub_table.specs.Events.{posted, subscribed}
use Rattle.sub_table.specs.Parts.{is_in, is_part}
use Rattle.sub_table.specs.Table.{Subscriptions, is_at, with_event, without_place}
use Rattle.dasp_session.specs.Letters.{Letter}
use Rattle.dasp_session.specs.Receive.{Handing, none, ended_at, payload_at, keep_of, post_of, received, tick_of}
use Rattle.dasp_session.specs.Session.{State}
use Rattle.sox_msg.specs.Answered.{Answered, answered_text}
use Rattle.sox_msg.specs.Command.{number_in}
use Rattle.sox_serve.specs.Answer.{Answer}
use Rattle.sox_serve.specs.declared.served.Served.{Served}
use Rattle.sox_serve.specs.declared.served.Served.TheVariants.{Replied, SaveAsked, Subscribe, Unsubscribe, Deleted}
use Rattle.node_events.specs.Delivering.{delivered, handed}
use Rattle.sox_events.specs.Due.{letter_of}
use Rattle.sox_msg.specs.Reply.{event_bytes}
use Rattle.node_events.specs.Events.{PartAt, Telling, bytes_of, differs_from, has_room_at, is_due, parts_of, then_call, told, told_all, told_if_due}
use Rattle.node_events.specs.Heard.{Heard, Wish, asks, is_refused}
use Rattle.node_events.specs.Mishap.{Mishap}
use Rattle.node_events.specs.Node.{Node, OnlyOfTheOpen, Setup, is_open}
use Rattle.node_events.specs.Running.{Event, comes, one_event, passes, run}
use Rattle.node_events.specs.Serving.{done_by, given, served, subscribed_after}
use Rattle.node_events.specs.Ticking.{advanced_to, at_place, cycle_of, places, timed, without_ended}
use Rattle.node_events.proofs.OpenSessions.{Leaves, Stays, keep_stays, post_stays, received_leaves, tick_leaves}

-- nothing is subscribed at a place that this says
abbrev NoneWhere : (ℕ → Type 0) → Subscriptions → Type 0
NoneWhere Is subs = (place id : ℕ) (part : Part) → Is place → subs place id part ≡ None

abbrev Closed : State → ℕ → Type 0
Closed state place = is_open state place ≡ false

and_false : (a : Bool) → (a && false) ≡ false
and_false true = refl
and_false false = refl

apart : (a b : ℕ) → a ≢ b → (a == b) ≡ false
apart a b ne = grind (arith, nat_tests)

not_same : (state : State) (p place : ℕ) → is_open state place ≡ true → is_open state p ≡ false → p ≢ place
not_same state p place is closed = λ e. let no : true ≡ false = sym is ∙ sym (ap (is_open state) e) ∙ closed in cc

-- ---- what changes subscriptions

module _ (state : State) (subs : Subscriptions) (none_where : NoneWhere (Closed state) subs) where
  after_served : (x : Served) (place : ℕ) (a : Application) → is_open state place ≡ true → NoneWhere (Closed state) (subscribed_after x place a subs)
  after_served Replied place a is p i part closed = none_where p i part closed
  after_served SaveAsked place a is p i part closed = none_where p i part closed
  after_served (Subscribe id mask) place a is p i part closed =
      ap (λ (b : Bool). if b && i == id.0 && is_in mask part then subscribed (subs p i part) else subs p i part) (apart p place (not_same state p place is closed))
      ∙ none_where p i part closed
  after_served (Unsubscribe id mask) place a is p i part closed = by_test (is_at place id.0 p i && is_in mask part)
    where
      by_test : (b : Bool) → (if b then None else subs p i part) ≡ None
      by_test true = refl
      by_test false = none_where p i part closed
  after_served Deleted place a is p i part closed = by_test (is_live a.components.by_id i)
    where
      by_test : (b : Bool) → (if b then subs p i part else None) ≡ None
      by_test true = none_where p i part closed
      by_test false = refl

  after_event : (place id : ℕ) (part : Part) (bytes : List ℕ) → is_open state place ≡ true → NoneWhere (Closed state) (with_event place id part bytes subs)
  after_event place id part bytes is p i other closed =
      ap (λ (b : Bool). if b && i == id && is_part part other then posted bytes (subs p i other) else subs p i other) (apart p place (not_same state p place is closed))
      ∙ none_where p i other closed

-- at a place that is left out, and where it was so before
left_out : (before after : State) (subs : Subscriptions) (place : ℕ)
    → ((q : ℕ) → q ≢ place → is_open after q ≡ false → is_open before q ≡ false) → NoneWhere (Closed before) subs
    → NoneWhere (Closed after) (without_place place subs)
left_out before after subs place stays none_where p i part closed = elim (cases_eq p place) [
  | inl e ↦ ap (λ (b : Bool). if b then None else subs p i part) (let same : (p == place) ≡ true = grind (arith, nat_tests) in same)
  | inr ne ↦ ap (λ (b : Bool). if b then None else subs p i part) (apart p place ne) ∙ none_where p i part (stays p ne closed)
]

after_stays : (before after : State) (subs : Subscriptions) → Stays before after → NoneWhere (Closed before) subs → NoneWhere (Closed after) subs
after_stays before after subs stays none_where p i part closed = none_where p i part (stays p closed)

-- ---- a datagram

module _ (m : Meaning) (s : Setup) where
  served_open : (n : Node) (place : ℕ) (wish : Wish) (mishap : Mishap) → is_open n.sessions place ≡ true → OnlyOfTheOpen n
      → NoneWhere (Closed n.sessions) (served m s n place wish mishap).subscriptions
  served_open n place (is_refused refusal) mishap is only = only
  served_open n place (asks asked) mishap is only = done_open (given m s n asked mishap) (given m s n asked mishap).reply
    where
      done_open : (x : Answer) (reply : Option Answered) → NoneWhere (Closed n.sessions) (done_by m s n place mishap x reply).subscriptions
      done_open x (Some reply) = after_served n.sessions n.subscriptions only x.served place x.application is
      done_open x None = only

  handed_open : (before : State) (n : Node) (wish : Wish) (mishap : Mishap) (sent : List Letter) (handing : Handing)
      → Leaves before n.sessions handing → NoneWhere (Closed before) n.subscriptions → OnlyOfTheOpen (handed m s wish mishap n sent handing).node
  handed_open before n wish mishap sent none leaves only = after_stays before n.sessions n.subscriptions leaves only
  handed_open before n wish mishap sent (ended_at place) leaves only = left_out before n.sessions n.subscriptions place leaves only
  handed_open before n wish mishap sent (payload_at place payload) leaves only =
      let serving = served m s n place wish mishap in
      let posted_to = post_of n.sessions place (answered_text (number_in payload) serving.reply) in
      after_stays n.sessions posted_to.state serving.subscriptions
      (post_stays n.sessions place (answered_text (number_in payload) serving.reply))
      (served_open n place wish mishap leaves.1 (after_stays before n.sessions n.subscriptions leaves.0 only))

  delivered_open : (n : Node) (from : Addr) (heard : Option Heard) (mishap : Mishap) → OnlyOfTheOpen n → OnlyOfTheOpen (delivered m s n from heard mishap).node
  delivered_open n from None mishap only = only
  delivered_open n from (Some heard) mishap only =
      let outcome = received n.sessions from (Some heard.message) in
      handed_open n.sessions (record n { sessions = outcome.state }) heard.wish mishap outcome.letters outcome.handing
      (received_leaves n.sessions from heard.message.kind heard.message) only

-- ---- a tick

-- no session that ticks hands on a payload
ended_open : (before : State) (handing : Handing) (t : Telling) → Leaves before t.node.sessions handing → NoneWhere (Closed before) t.node.subscriptions
    → OnlyOfTheOpen (without_ended handing t).node
ended_open before none t leaves only = after_stays before t.node.sessions t.node.subscriptions leaves only
ended_open before (ended_at place) t leaves only = left_out before t.node.sessions t.node.subscriptions place leaves only
ended_open before (payload_at place payload) t leaves only = after_stays before t.node.sessions t.node.subscriptions leaves.0 only

pub timed_open : (place : ℕ) (t : Telling) → OnlyOfTheOpen t.node → OnlyOfTheOpen (timed place t).node
timed_open place t only =
    let outcome = tick_of t.node.sessions place in
    ended_open t.node.sessions outcome.handing (then_call t outcome) (tick_leaves t.node.sessions place) only

module _ (m : Meaning) where
  pub part_open : (place : ℕ) (t : Telling) (p : PartAt) → OnlyOfTheOpen t.node → OnlyOfTheOpen (told_if_due m place t p).node
  part_open place t p only = by_test (has_room_at t.node.sessions place && is_due m t.node.application t.node.subscriptions place p.id p.part) refl
    where
      -- what is due is subscribed, so its session is open
      due_open : (c : Bool) → is_open t.node.sessions place ≡ c → (has_room_at t.node.sessions place && is_due m t.node.application t.node.subscriptions place p.id p.part) ≡ true
          → is_open t.node.sessions place ≡ true
      due_open true is due = is
      due_open false is due =
          absurd (
          let not_due : is_due m t.node.application t.node.subscriptions place p.id p.part ≡ false =
          ap (λ (o : Option (Option (List ℕ))). is_live t.node.application.components.by_id p.id && option_map_or (differs_from (bytes_of m t.node.application p.id p.part)) o false) (only place p.id p.part is)
          ∙ and_false (is_live t.node.application.components.by_id p.id) in
          let no : true ≡ false = sym due ∙ ap (λ (d : Bool). has_room_at t.node.sessions place && d) not_due ∙ and_false (has_room_at t.node.sessions place) in
          cc)

      by_test : (b : Bool) → (has_room_at t.node.sessions place && is_due m t.node.application t.node.subscriptions place p.id p.part) ≡ b
          → OnlyOfTheOpen (if b then told place p.id p.part (bytes_of m t.node.application p.id p.part) t else t).node
      by_test true due =
          after_stays t.node.sessions (post_of t.node.sessions place (event_bytes p.id (letter_of p.part) (bytes_of m t.node.application p.id p.part))).state
          (with_event place p.id p.part (bytes_of m t.node.application p.id p.part) t.node.subscriptions)
          (post_stays t.node.sessions place (event_bytes p.id (letter_of p.part) (bytes_of m t.node.application p.id p.part)))
          (after_event t.node.sessions t.node.subscriptions only place p.id p.part (bytes_of m t.node.application p.id p.part)
          (due_open (is_open t.node.sessions place) refl due))
      by_test false due = only

  parts_open : (place : ℕ) (parts : List PartAt) (t : Telling) → OnlyOfTheOpen t.node → OnlyOfTheOpen (fold (told_if_due m place) t parts).node
  parts_open place [] t only = only
  parts_open place (p ∷ parts) t only = parts_open place parts (told_if_due m place t p) (part_open place t p only)

  pub place_open : (t : Telling) (place : ℕ) → OnlyOfTheOpen t.node → OnlyOfTheOpen (at_place m t place).node
  place_open t place only =
      let after = told_all m place (timed place t) in
      after_stays after.node.sessions (keep_of after.node.sessions place).state after.node.subscriptions (keep_stays after.node.sessions place)
      (parts_open place (parts_of (timed place t).node.application) (timed place t) (timed_open place t only))

  places_open : (some : List ℕ) (t : Telling) → OnlyOfTheOpen t.node → OnlyOfTheOpen (fold (at_place m) t some).node
  places_open [] t only = only
  places_open (place ∷ some) t only = places_open some (at_place m t place) (place_open t place only)

-- ---- a run

module _ (m : Meaning) (s : Setup) where
  event_open : (n : Node) (event : Event) → OnlyOfTheOpen n → OnlyOfTheOpen (one_event m s n event).node
  event_open n (comes from heard mishap) only = delivered_open m s n from heard mishap only
  event_open n (passes moment) only =
      let now : Node = advanced_to moment n in
      places_open m places (record { node = record now { application = (cycle_of m s now).application }; sent = [] }) only

  pub run_open : (n : Node) (events : List Event) → OnlyOfTheOpen n → OnlyOfTheOpen (run m s n events).node
  run_open n [] only = only
  run_open n (event ∷ events) only = run_open (one_event m s n event).node events (event_open n event only)
