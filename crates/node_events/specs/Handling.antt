-- Entries of a record, or of what came over a link and of what a clock gave, and the events that they come to.
use Rattle.std.specs.Prelude.{ℕ, Bool, List, [], ◌∷◌, ⊤}
use Rattle.sed_outside.specs.Cause.{Rose}
use Rattle.replay_log.specs.Entry.{Entry}
use Rattle.node_events.specs.Mishap.{Mishap, MayHappen, nothing_wrong}
use Rattle.node_events.specs.Running.{Event, IsEvent, comes, passes}

-- an entry, and how many faults of the disk were counted before it was handled, and how many once it was
pub record Handled : Type 0 where
  pub entry : Entry
  pub before : ℕ
  pub now : ℕ

-- what went wrong within an event; within a tick nothing does
abbrev pub wrong_in : Event → Mishap
wrong_in (comes from heard mishap) = mishap
wrong_in (passes moment) = nothing_wrong

-- over an engine that is fixed, or is not
abbrev pub IsHandledAs : Bool → Handled → Event → Type 0
IsHandledAs fixed handled event =
    IsEvent handled.entry event × MayHappen fixed (Rose handled.before handled.now) (wrong_in event)

abbrev pub AreHandledAs : Bool → List Handled → List Event → Type 0
AreHandledAs fixed [] [] = ⊤
AreHandledAs fixed [] (event ∷ events) = ⊥
AreHandledAs fixed (handled ∷ later) [] = ⊥
AreHandledAs fixed (handled ∷ later) (event ∷ events) =
    IsHandledAs fixed handled event × AreHandledAs fixed later events
