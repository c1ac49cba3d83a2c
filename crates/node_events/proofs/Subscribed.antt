-- Only parts of live components are subscribed, after each event.
use Rattle.std.proofs.Common.{◌≡◌, ◌≢◌, ℕ, Bool, true, false, List, [], ◌∷◌, refl, sym, ◌∙◌, ap, arith}
use Rattle.std.specs.Prelude.{ℤ, ◌==◌, ◌&&◌, not, Option, Some, None, if◌then◌else◌}
use Rattle.std.specs.List.{fold}
use Rattle.std.proofs.lemmas.Bool.Decides.{nat_tests}
use Rattle.sed_outside.specs.declared.addr.Addr.{Addr}
use Rattle.sed_value.specs.declared.refusal.Refusal.{Refusal}
use Rattle.sed_value.specs.declared.refusal.Refusal.TheVariants.{NoComponent, OutOfMemory}
use Rattle.sed_engine.specs.declared.call.Callback.TheVariants.{Changed, Start}
use Rattle.sed_engine.specs.declared.call.Root.TheVariants.{Action, Callback}
use Rattle.sed_engine.specs.Code.{Meaning}
use Rattle.comp_tree.specs.Application.{Application, ById, Components, is_live}
use Rattle.comp_tree.specs.Calls.{Call, callback_argument}
use Rattle.comp_tree.specs.Edit.{Edited, class_or_none, is_save, over, unless_refused}
use Rattle.comp_tree.specs.Edits.{after_add, after_clear, after_delete, after_invoke, after_rename, after_reorder, after_write, first_of, with_child}
use Rattle.comp_tree.specs.Links.{has_changed, store}
use Rattle.comp_tree.specs.Order.{least_free}
use Rattle.comp_tree.specs.Refusals.{first_refusal, invoke_types, refusals_of_add, refusals_of_clear, refusals_of_delete, refusals_of_invoke, refusals_of_link, refusals_of_part, refusals_of_read, refusals_of_rename, refusals_of_reorder, refusals_of_unlink, refusals_of_write, write_types}
use Rattle.comp_tree.specs.Values.{taken}
use Rattle.sub_table.specs.declared.part.Part.{Part}
use Rattle.sub_table.specs.Events.{posted, subscribed}
use Rattle.sub_table.specs.Parts.{is_in, is_part}
use Rattle.sub_table.specs.Table.{Subscriptions, is_at, with_event, with_subscribed, without_place, without_subscribed}
use Rattle.dasp_session.specs.Letters.{Letter}
use Rattle.dasp_session.specs.Receive.{Handing, none, ended_at, payload_at, received, tick_of}
use Rattle.sox_msg.specs.Answered.{Answered}
use Rattle.sox_msg.specs.Command.{Asked, add, read_part, delete, invoke, link, unlink, rename, reorder, read_slot, subscribe, unsubscribe, version, write, clear}
use Rattle.sox_serve.specs.Answer.{Answer, answer, answer_by, refused_by, served_by}
use Rattle.sox_serve.specs.Table.{link_between}
use Rattle.sox_serve.specs.declared.served.Served.TheVariants.{Replied, SaveAsked}
use Rattle.node_events.specs.Delivering.{delivered, handed}
use Rattle.node_events.specs.Events.{PartAt, Telling, bytes_of, has_room_at, is_due, parts_of, then_call, told, told_if_due}
use Rattle.node_events.specs.Heard.{Heard, Wish, asks, is_refused}
use Rattle.node_events.specs.Mishap.{Mishap}
use Rattle.node_events.specs.Node.{Node, OnlyOfTheLive, Setup, of_the_live}
use Rattle.node_events.specs.Running.{Event, comes, one_event, passes, run}
use Rattle.node_events.specs.Serving.{done_by, given, lacks_memory, served, subscribed_after}
use Rattle.node_events.specs.Ticking.{advanced_to, at_place, cycle_of, places, ticked, timed, without_ended}
use Rattle.node_events.proofs.Living.{Stays, change_stays, cycle_stays, put_stays, run_stays}
use Rattle.sed_value.proofs.Truths.{and_left as first_true}

abbrev Only : ById → Subscriptions → Type 0
Only all subs = (place id : ℕ) (part : Part) → is_live all id ≡ false → subs place id part ≡ None

only_stays : (before after : ById) (subs : Subscriptions) → Stays before after → Only before subs → Only after subs
only_stays before after subs stays only p i part dead = only p i part (stays i dead)

-- ---- what changes subscriptions

apart : (a b : ℕ) → a ≢ b → (a == b) ≡ false
apart a b ne = grind (arith, nat_tests)

and_false : (a b : Bool) → b ≡ false → (a && b) ≡ false
and_false true b is = is
and_false false b is = refl

not_same : (all : ById) (i id : ℕ) → is_live all id ≡ true → is_live all i ≡ false → i ≢ id
not_same all i id live dead = λ e. let no : true ≡ false = sym live ∙ sym (ap (is_live all) e) ∙ dead in cc

only_subscribed : (all : ById) (subs : Subscriptions) (place id mask : ℕ) → is_live all id ≡ true → Only all subs → Only all (with_subscribed place id mask subs)
only_subscribed all subs place id mask live only p i part dead =
    ap (λ (b : Bool). if b && is_in mask part then subscribed (subs p i part) else subs p i part)
    (and_false (p == place) (i == id) (apart i id (not_same all i id live dead)))
    ∙ only p i part dead

only_unsubscribed : (all : ById) (subs : Subscriptions) (place id mask : ℕ) → Only all subs → Only all (without_subscribed place id mask subs)
only_unsubscribed all subs place id mask only p i part dead = by_test (is_at place id p i && is_in mask part)
  where
    by_test : (b : Bool) → (if b then None else subs p i part) ≡ None
    by_test true = refl
    by_test false = only p i part dead

only_told : (all : ById) (subs : Subscriptions) (place id : ℕ) (part : Part) (bytes : List ℕ) → is_live all id ≡ true → Only all subs
    → Only all (with_event place id part bytes subs)
only_told all subs place id part bytes live only p i other dead =
    ap (λ (b : Bool). if b && is_part part other then posted bytes (subs p i other) else subs p i other)
    (and_false (p == place) (i == id) (apart i id (not_same all i id live dead)))
    ∙ only p i other dead

only_elsewhere : (all : ById) (subs : Subscriptions) (place : ℕ) → Only all subs → Only all (without_place place subs)
only_elsewhere all subs place only p i part dead = by_test (p == place)
  where
    by_test : (b : Bool) → (if b then None else subs p i part) ≡ None
    by_test true = refl
    by_test false = only p i part dead

only_live : (all : ById) (subs : Subscriptions) → Only all (of_the_live all subs)
only_live all subs p i part dead = ap (λ (b : Bool). if b then subs p i part else None) dead

-- ---- a command

live_if_none : (b : Bool) → first_refusal ((not b, NoComponent) ∷ []) ≡ None → b ≡ true
live_if_none true is = refl
live_if_none false is = absurd (no is)
  where
    no : ◌≡◌ {A = Option Refusal} (Some NoComponent) None → ⊥
    no is = cc

module _ (m : Meaning) (a : Application) (subs : Subscriptions) (place : ℕ) (only : Only a.components.by_id subs) where
  abbrev After : Answer → Type 0
  After x = Only x.application.components.by_id (subscribed_after x.served place x.application subs)

  -- a command that is refused, or done
  by_row : (asked : Asked) (r : Option Refusal) (x : Edited)
      → (r ≡ None → Only x.application.components.by_id (subscribed_after (served_by asked) place x.application subs))
      → After (answer_by a asked (unless_refused r x))
  by_row asked None x ok = ok refl
  by_row asked (Some refusal) x ok = only

  kept : (x : Application) → Stays a.components.by_id x.components.by_id → Only x.components.by_id subs
  kept x stays = only_stays a.components.by_id x.components.by_id subs stays only

  add_stays : (parent class : ℕ) (name config : List ℕ) (turns : ℕ) (moment : ℤ)
      → Stays a.components.by_id (after_add m a.components parent class name config turns moment).left.by_id
  add_stays parent class name config turns moment = λ q dead.
      change_stays a.components.by_id parent (with_child (least_free a.components.by_id)) q
      (put_stays _ (least_free a.components.by_id) _ q
      (run_stays m _ (least_free a.components.by_id) (Callback Start) (callback_argument Start 0) turns moment q dead))

  abbrev stored : ℕ → ℕ → List ℕ → Components
  stored id slot value = store m a.components id slot (first_of (taken (write_types m a.components.by_id id slot) value))

  write_stays : (id slot : ℕ) (value : List ℕ) (turns : ℕ) (moment : ℤ) → Stays a.components.by_id (after_write m a.components id slot value turns moment).by_id
  write_stays id slot value turns moment = by_test (has_changed m a.components (stored id slot value) id slot)
    where
      by_test : (b : Bool) → Stays a.components.by_id (if b then (Call m (stored id slot value) id Changed slot turns moment).left else stored id slot value).by_id
      by_test true = λ q dead.
          change_stays a.components.by_id id _ q (run_stays m (stored id slot value) id (Callback Changed) (callback_argument Changed slot) turns moment q dead)
      by_test false = change_stays a.components.by_id id _

  -- the App's `save` changes nothing here
  invoked : (b : Bool) (after : Components) → Stays a.components.by_id after.by_id
      → Only (if b then a else over a after).components.by_id (subscribed_after (if b then SaveAsked else Replied) place (if b then a else over a after) subs)
  invoked true after stays = only
  invoked false after stays = kept (over a after) stays

  pub answered_only : (turns : ℕ) (moment : ℤ) (asked : Asked) → After (answer m a asked turns moment)
  answered_only turns moment (add parent kit kind name config) =
      by_row (add parent kit kind name config) (first_refusal (refusals_of_add m a.components parent kit kind name config)) _
      (λ ok. kept (over a (after_add m a.components parent (class_or_none m kit kind) name config turns moment).left)
      (add_stays parent (class_or_none m kit kind) name config turns moment))
  answered_only turns moment (read_part id part) = by_row (read_part id part) (first_refusal (refusals_of_part a.components.by_id id)) _ (λ ok. only)
  answered_only turns moment (delete id) =
      by_row (delete id) (first_refusal (refusals_of_delete a.components.by_id id)) _ (λ ok. only_live (after_delete m a.components id turns moment).by_id subs)
  answered_only turns moment (invoke id slot argument) =
      by_row (invoke id slot argument) (first_refusal (refusals_of_invoke m a.components.by_id id slot argument)) _
      (λ ok. invoked (is_save id slot) (after_invoke m a.components id (record { 0 = slot }) argument turns moment).left
      (run_stays m a.components id (Action (record { 0 = slot })) (first_of (taken (invoke_types m a.components.by_id id slot) argument)) turns moment))
  answered_only turns moment (link source from_slot target to_slot) =
      by_row (link source from_slot target to_slot) (first_refusal (refusals_of_link m a.components.by_id a.links (link_between source from_slot target to_slot))) _ (λ ok. only)
  answered_only turns moment (unlink source from_slot target to_slot) =
      by_row (unlink source from_slot target to_slot) (first_refusal (refusals_of_unlink a.links (link_between source from_slot target to_slot))) _ (λ ok. only)
  answered_only turns moment (rename id name) =
      by_row (rename id name) (first_refusal (refusals_of_rename a.components.by_id id name)) _
      (λ ok. kept (over a (after_rename a.components id name)) (change_stays a.components.by_id id _))
  answered_only turns moment (reorder id children) =
      by_row (reorder id children) (first_refusal (refusals_of_reorder a.components.by_id id children)) _
      (λ ok. kept (over a (after_reorder a.components id children)) (change_stays a.components.by_id id _))
  answered_only turns moment (read_slot id slot) = by_row (read_slot id slot) (first_refusal (refusals_of_read m a.components.by_id id slot)) _ (λ ok. only)
  answered_only turns moment (subscribe id mask) =
      by_row (subscribe id mask) (first_refusal (refusals_of_clear a.components.by_id id)) _
      (λ ok. only_subscribed a.components.by_id subs place id mask (live_if_none (is_live a.components.by_id id) ok) only)
  answered_only turns moment (unsubscribe id mask) =
      by_row (unsubscribe id mask) (first_refusal (refusals_of_clear a.components.by_id id)) _
      (λ ok. only_unsubscribed a.components.by_id subs place id mask only)
  answered_only turns moment version = only
  answered_only turns moment (write id slot value) =
      by_row (write id slot value) (first_refusal (refusals_of_write m a.components.by_id id slot value)) _
      (λ ok. kept (over a (after_write m a.components id slot value turns moment)) (write_stays id slot value turns moment))
  answered_only turns moment (clear id) =
      by_row (clear id) (first_refusal (refusals_of_clear a.components.by_id id)) _
      (λ ok. kept (over a (after_clear a.components id)) (change_stays a.components.by_id id _))

-- ---- a datagram

module _ (m : Meaning) (s : Setup) where
  served_only : (n : Node) (place : ℕ) (wish : Wish) (mishap : Mishap) → OnlyOfTheLive n
      → Only (served m s n place wish mishap).application.components.by_id (served m s n place wish mishap).subscriptions
  served_only n place (is_refused refusal) mishap only = only
  served_only n place (asks asked) mishap only = done_only (given m s n asked mishap).reply
    where
      given_only : (b : Bool)
          → After m n.application n.subscriptions place only (if b then refused_by n.application OutOfMemory else answer m n.application asked s.turns n.sessions.moment)
      given_only true = only
      given_only false = answered_only m n.application n.subscriptions place only s.turns n.sessions.moment asked

      done_only : (reply : Option Answered)
          → Only (done_by m s n place mishap (given m s n asked mishap) reply).application.components.by_id (done_by m s n place mishap (given m s n asked mishap) reply).subscriptions
      done_only (Some reply) = given_only (lacks_memory m s n asked mishap)
      done_only None = only

  handed_only : (n : Node) (wish : Wish) (mishap : Mishap) (sent : List Letter) (handing : Handing) → OnlyOfTheLive n
      → OnlyOfTheLive (handed m s wish mishap n sent handing).node
  handed_only n wish mishap sent none only = only
  handed_only n wish mishap sent (ended_at place) only = only_elsewhere n.application.components.by_id n.subscriptions place only
  handed_only n wish mishap sent (payload_at place payload) only = served_only n place wish mishap only

  delivered_only : (n : Node) (from : Addr) (heard : Option Heard) (mishap : Mishap) → OnlyOfTheLive n → OnlyOfTheLive (delivered m s n from heard mishap).node
  delivered_only n from None mishap only = only
  delivered_only n from (Some heard) mishap only =
      let outcome = received n.sessions from (Some heard.message) in
      handed_only (record n { sessions = outcome.state }) heard.wish mishap outcome.letters outcome.handing only

-- ---- a tick

ended_only : (handing : Handing) (t : Telling) → OnlyOfTheLive t.node → OnlyOfTheLive (without_ended handing t).node
ended_only none t only = only
ended_only (ended_at place) t only = only_elsewhere t.node.application.components.by_id t.node.subscriptions place only
ended_only (payload_at place payload) t only = only

module _ (m : Meaning) where
  part_only : (place : ℕ) (t : Telling) (p : PartAt) → OnlyOfTheLive t.node → OnlyOfTheLive (told_if_due m place t p).node
  part_only place t p only =
      by_tests (has_room_at t.node.sessions place) (is_due m t.node.application t.node.subscriptions place p.id p.part) refl
    where
      by_tests : (room due : Bool) → is_due m t.node.application t.node.subscriptions place p.id p.part ≡ due
          → OnlyOfTheLive (if room && due then told place p.id p.part (bytes_of m t.node.application p.id p.part) t else t).node
      by_tests true true is =
          only_told t.node.application.components.by_id t.node.subscriptions place p.id p.part (bytes_of m t.node.application p.id p.part)
          (first_true (is_live t.node.application.components.by_id p.id) _ is) only
      by_tests true false is = only
      by_tests false due is = only

  parts_only : (place : ℕ) (parts : List PartAt) (t : Telling) → OnlyOfTheLive t.node → OnlyOfTheLive (fold (told_if_due m place) t parts).node
  parts_only place [] t only = only
  parts_only place (p ∷ parts) t only = parts_only place parts (told_if_due m place t p) (part_only place t p only)

  place_only : (t : Telling) (place : ℕ) → OnlyOfTheLive t.node → OnlyOfTheLive (at_place m t place).node
  place_only t place only =
      let outcome = tick_of t.node.sessions place in
      parts_only place (parts_of (timed place t).node.application) (timed place t) (ended_only outcome.handing (then_call t outcome) only)

  places_only : (some : List ℕ) (t : Telling) → OnlyOfTheLive t.node → OnlyOfTheLive (fold (at_place m) t some).node
  places_only [] t only = only
  places_only (place ∷ some) t only = places_only some (at_place m t place) (place_only t place only)

-- ---- a run

module _ (m : Meaning) (s : Setup) where
  ticked_only : (n : Node) (moment : ℤ) → OnlyOfTheLive n → OnlyOfTheLive (ticked m s n moment).node
  ticked_only n moment only =
      let now : Node = advanced_to moment n in
      let after : Application = (cycle_of m s now).application in
      places_only m places (record { node = record now { application = after }; sent = [] })
      (only_stays n.application.components.by_id after.components.by_id n.subscriptions (cycle_stays m n.application s.turns now.sessions.moment) only)

  event_only : (n : Node) (event : Event) → OnlyOfTheLive n → OnlyOfTheLive (one_event m s n event).node
  event_only n (comes from heard mishap) only = delivered_only m s n from heard mishap only
  event_only n (passes moment) only = ticked_only n moment only

  pub run_only : (n : Node) (events : List Event) → OnlyOfTheLive n → OnlyOfTheLive (run m s n events).node
  run_only n [] only = only
  run_only n (event ∷ events) only = run_only (one_event m s n event).node events (event_only n event only)
