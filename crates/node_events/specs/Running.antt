-- A run: one event after another.
use Rattle.std.specs.Prelude.{ℕ, ◌+◌, ◌≡◌, ℤ, true, List, [], ◌∷◌, ◌++◌, length, Option, Some, None}
use Rattle.sed_outside.specs.declared.addr.Addr.{Addr}
use Rattle.sed_engine.specs.Code.{Meaning}
use Rattle.comp_tree.specs.Application.{Application}
use Rattle.comp_tree.specs.Parts.{Kept}
use Rattle.dasp_session.specs.Letters.{Letter}
use Rattle.replay_log.specs.Entry.{Entry, datagram, tick}
use Rattle.node_events.specs.Delivering.{Delivery, delivered}
use Rattle.node_events.specs.Heard.{Heard, IsHeard}
use Rattle.node_events.specs.Mishap.{Mishap}
use Rattle.node_events.specs.Node.{Node, Setup}
use Rattle.node_events.specs.Saving.{Save}
use Rattle.node_events.specs.Ticking.{Ticked, ticked}

-- ---- events

-- a datagram comes from an address and says this, or a moment has come; and what went wrong
pub data Event : Type 0 where
  comes : (from : Addr) (heard : Option Heard) (mishap : Mishap) → Event
  passes : (moment : ℤ) → Event

-- the event of an entry of a record, or of what came over a link and of what a clock gave
abbrev pub IsEvent : Entry → Event → Type 0
IsEvent (datagram sender bytes) (comes from heard mishap) = (from ≡ sender) × IsHeard bytes heard
IsEvent (datagram sender bytes) (passes moment) = ⊥
IsEvent (tick ticks) (comes from heard mishap) = ⊥
IsEvent (tick ticks) (passes moment) = moment ≡ ticks

-- ---- what they come to

-- how many ticks there were, how many datagrams were handled, and how many root calls of cycles trapped
pub record Counts : Type 0 where
  pub ticks : ℕ
  pub taken : ℕ
  pub traps : ℕ

-- the node that is reached, all that was sent and each save that began, in order
pub record Reached : Type 0 where
  pub node : Node
  pub sent : List Letter
  pub saves : List Save
  pub counts : Counts

abbrev pub offered : Reached → ℕ
offered r = length r.sent

abbrev pub listed : Option Save → List Save
listed None = []
listed (Some save) = save ∷ []

abbrev pub by_delivery : Delivery → Reached
by_delivery d =
    record { node = d.node; sent = d.sent; saves = listed d.save; counts = record { ticks = 0; taken = 1; traps = 0 } }

abbrev pub by_tick : Ticked → Reached
by_tick t =
    record { node = t.node; sent = t.sent; saves = []; counts = record { ticks = 1; taken = 0; traps = t.traps } }

abbrev pub one_event : Meaning → Setup → Node → Event → Reached
one_event m s n (comes from heard mishap) = by_delivery (delivered m s n from heard mishap)
one_event m s n (passes moment) = by_tick (ticked m s n moment)

-- ---- a run

abbrev pub nothing_yet : Node → Reached
nothing_yet n = record { node = n; sent = []; saves = []; counts = record { ticks = 0; taken = 0; traps = 0 } }

abbrev pub count_both : Counts → Counts → Counts
count_both first then = record {
  ticks = first.ticks + then.ticks;
  taken = first.taken + then.taken;
  traps = first.traps + then.traps;
}

-- what comes behind what was reached
abbrev pub followed_by : Reached → Reached → Reached
followed_by first later = record {
  node = later.node;
  sent = first.sent ++ later.sent;
  saves = first.saves ++ later.saves;
  counts = count_both first.counts later.counts;
}

abbrev pub run : Meaning → Setup → Node → List Event → Reached
run m s n [] = nothing_yet n
run m s n (event ∷ events) = followed_by (one_event m s n event) (run m s (one_event m s n event).node events)

-- what each of these events sent, event by event
abbrev pub sent_by : Meaning → Setup → Node → List Event → List (List Letter)
sent_by m s n [] = []
sent_by m s n (event ∷ events) =
    (one_event m s n event).sent ∷ sent_by m s (one_event m s n event).node events

-- ---- saves

-- the saves of a run: what was opened, which counts as acknowledged, and then each save that began
abbrev pub saves_of : Meaning → Setup → Application → Node → List Event → List Save
saves_of m s opened n events = record { application = opened; acknowledged = true } ∷ (run m s n events).saves

-- it began in an event of the run, and is of what is kept of the application that was reached before that
pub record IsSavedIn (m : Meaning) (s : Setup) (n : Node) (events : List Event) (save : Save) : Type 0 where
  pub before : List Event
  pub event : Event
  pub later : List Event
  pub parted : events ≡ before ++ event ∷ later
  pub began : (one_event m s (run m s n before).node event).saves ≡ save ∷ []
  pub kept : save.application ≡ Kept m (run m s n before).node.application
