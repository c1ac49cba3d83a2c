-- What a tick makes of a node, and what the node sends.
use Rattle.std.specs.Prelude.{ℕ, ℤ, List, [], ◌∷◌}
use Rattle.std.specs.List.{fold}
use Rattle.sed_engine.specs.Code.{Meaning}
use Rattle.comp_tree.specs.Cycle.{Cycle, Cycled}
use Rattle.dasp_session.specs.Letters.{Letter}
use Rattle.dasp_session.specs.Receive.{Handing, Outcome, none, ended_at, payload_at, advanced, keep_of, tick_of}
use Rattle.node_events.specs.Events.{Telling, then_call, told_all}
use Rattle.node_events.specs.Node.{Node, Setup, without_session}

pub record Ticked : Type 0 where
  pub node : Node
  pub sent : List Letter
  -- the root calls of the cycle that trapped
  pub traps : ℕ

-- what goes with a session goes where one has ended
abbrev pub without_ended : Handing → Telling → Telling
without_ended none t = t
without_ended (ended_at place) t = record t { node = without_session place t.node }
without_ended (payload_at place payload) t = t

-- the timeouts of the session of a place, and else what is to be sent again
abbrev pub timed : ℕ → Telling → Telling
timed place t =
    let outcome : Outcome = tick_of t.node.sessions place in without_ended outcome.handing (then_call t outcome)

-- one keepAlive where an acknowledgement is still owed
abbrev pub kept_up : ℕ → Telling → Telling
kept_up place t = then_call t (keep_of t.node.sessions place)

-- a place: where no session lives, or the one that did has ended, nothing more is sent
abbrev pub at_place : Meaning → Telling → ℕ → Telling
at_place m t place = kept_up place (told_all m place (timed place t))

abbrev pub places : List ℕ
places = 0 ∷ 1 ∷ 2 ∷ 3 ∷ 4 ∷ 5 ∷ 6 ∷ 7 ∷ 8 ∷ 9 ∷ 10 ∷ 11 ∷ 12 ∷ 13 ∷ 14 ∷ 15 ∷ []

-- one place after another, once the cycle has left a node
abbrev pub at_places : Meaning → Node → Telling
at_places m n = fold (at_place m) (record { node = n; sent = [] }) places

-- the cycle of a node whose moment was advanced
abbrev pub cycle_of : Meaning → Setup → Node → Cycled
cycle_of m s n = Cycle m n.application s.turns n.sessions.moment

abbrev pub after_cycle : Meaning → Node → Cycled → Ticked
after_cycle m n cycled =
    let end : Telling = at_places m (record n { application = cycled.application }) in
    record { node = end.node; sent = end.sent; traps = cycled.traps }

-- the moment is the greater of what it was and this one, and the cycle runs at it
abbrev pub advanced_to : ℤ → Node → Node
advanced_to moment n = record n { sessions = advanced n.sessions moment }

abbrev pub ticked : Meaning → Setup → Node → ℤ → Ticked
ticked m s n moment = let now : Node = advanced_to moment n in after_cycle m now (cycle_of m s now)
