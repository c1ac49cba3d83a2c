-- What the calls of a node do: what is defined of it.
use Rattle.std.specs.Prelude.{◌≡◌, ◌≤◌, ℕ, ℤ, Bool, false, IsTrue, List, [], length, Option, Some, None}
use Rattle.sed_outside.specs.Cause.{Rose}
use Rattle.sed_outside.specs.declared.addr.Addr.{Addr}
use Rattle.disk_model.specs.Disk.{Meaning as DiskMeaning}
use Rattle.sed_engine.specs.declared.engine.Engine.{Ghosts}
use Rattle.sed_engine.specs.Code.{Meaning}
use Rattle.sox_serve.specs.Serves.{is_add}
use Rattle.dasp_session.specs.Outbox.{Datagram, Sends}
use Rattle.node_events.specs.Delivering.{Delivery, delivered, replied}
use Rattle.node_events.specs.Events.{Telling}
use Rattle.node_events.specs.Heard.{Heard, Wish, asks, is_refused}
use Rattle.node_events.specs.Mishap.{MayHappen, Mishap, is_no_memory}
use Rattle.node_events.specs.Node.{Node}
use Rattle.node_events.specs.Serving.{Serving, served}
use Rattle.node_events.specs.Ticking.{Ticked, ticked}
use Rattle.sed_node.specs.OnDisk.{OnDisk}
use Rattle.sed_node.specs.Standing.{Holds, SameSetup, StandsFor, code_of, is_fixed, setup_of}
use Rattle.sed_node.specs.declared.kept.Kept.{Kept}

-- ---- a datagram

abbrev pub delivery_of : {E : Type 0} → Ghosts E → Kept E → Node → Addr → Option Heard → Mishap → Delivery
delivery_of g kept n from heard mishap = delivered (code_of g kept) (setup_of kept) n from heard mishap

-- an add is asked
abbrev pub asks_add : Wish → Bool
asks_add (asks command) = is_add command
asks_add (is_refused refusal) = false

abbrev pub is_heard_to_add : Option Heard → Bool
is_heard_to_add None = false
is_heard_to_add (Some heard) = asks_add heard.wish

-- a datagram was delivered, and something may have gone wrong: an add wants memory only over an engine that is not
-- fixed,
-- nothing else wants any, and the disk fails only where its count of faults has risen. The texts of exactly the
-- messages that are sent, one at
-- most, are put into an empty outbox. The disk is as it was, or the save has begun on it
pub record Delivers {E D : Type 0} (g : Ghosts E) (meaning : D → DiskMeaning) (old new : Kept E) (n : Node)
    (from : Addr) (heard : Option Heard) (sent : List Datagram) (before after : D) : Type 0 where
  pub mishap : Mishap
  pub may : MayHappen (is_fixed g old) (Rose (meaning before).faults (meaning after).faults) mishap
  pub adds_alone : IsTrue (is_no_memory mishap) → IsTrue (is_heard_to_add heard)
  pub stands : StandsFor g new (delivery_of g old n from heard mishap).node
  pub same : SameSetup g old new
  pub sends : Sends (delivery_of g old n from heard mishap).sent [] sent
  pub few : length sent ≤ 1
  pub disk : OnDisk meaning (code_of g old) (setup_of old).slot (delivery_of g old n from heard mishap).save before
      after

-- ---- a payload that was taken at a place

abbrev pub serving_of : {E : Type 0} → Ghosts E → Kept E → Node → ℕ → Wish → Mishap → Serving
serving_of g kept n place wish mishap = served (code_of g kept) (setup_of kept) n place wish mishap

-- what it comes to is done: the node after it is held, its reply is posted, and its save is begun
pub record Does {E D : Type 0} (g : Ghosts E) (meaning : D → DiskMeaning) (m : Meaning) (slot : ℕ) (new : Kept E)
    (n : Node) (place : ℕ) (payload : List ℕ) (serving : Serving) (sent sent_now : List Datagram) (before after : D)
    : Type 0 where
  pub holds : Holds g new (replied place payload n [] serving).node
  pub sends : Sends (replied place payload n [] serving).sent sent sent_now
  pub disk : OnDisk meaning m slot serving.save before after

-- a payload is answered: what it is served as is done, and something may have gone wrong
pub record Answers {E D : Type 0} (g : Ghosts E) (meaning : D → DiskMeaning) (old new : Kept E) (n : Node) (place : ℕ)
    (payload : List ℕ) (wish : Wish) (sent sent_now : List Datagram) (before after : D) : Type 0 where
  pub mishap : Mishap
  pub may : MayHappen (is_fixed g old) (Rose (meaning before).faults (meaning after).faults) mishap
  pub adds_alone : IsTrue (is_no_memory mishap) → IsTrue (asks_add wish)
  pub does : Does g meaning (code_of g old) old.saver new n place payload (serving_of g old n place wish mishap) sent
      sent_now before after

-- ---- a tick

-- in the course of a tick it holds the node that was reached, and what was sent so far was put into an empty outbox
pub record IsTold {E : Type 0} (g : Ghosts E) (kept : Kept E) (t : Telling) (sent : List Datagram) : Type 0 where
  pub holds : Holds g kept t.node
  pub sends : Sends t.sent [] sent

abbrev pub tick_of : {E : Type 0} → Ghosts E → Kept E → Node → ℤ → Ticked
tick_of g kept n moment = ticked (code_of g kept) (setup_of kept) n moment

-- a moment has come: the texts of exactly the messages that are sent, 496 at most, are put into an empty outbox, in
-- their order, and so many root calls of the cycle trapped
pub record Ticks {E : Type 0} (g : Ghosts E) (old new : Kept E) (n : Node) (moment : ℤ) (traps : ℕ)
    (sent : List Datagram) : Type 0 where
  pub stands : StandsFor g new (tick_of g old n moment).node
  pub same : SameSetup g old new
  pub sends : Sends (tick_of g old n moment).sent [] sent
  pub few : length sent ≤ 496
  pub traps_are : traps ≡ (tick_of g old n moment).traps
