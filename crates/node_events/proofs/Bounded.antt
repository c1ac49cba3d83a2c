-- How many sessions live, and how many messages a run sends.
use Rattle.std.proofs.Common.{◌≡◌, ◌≤◌, ◌*◌, List, [], ◌∷◌, length, arith}
use Rattle.std.specs.Prelude.{is_some}
use Rattle.std.proofs.lemmas.List.{length-append}
use Rattle.std.proofs.lemmas.List.Sums.{count_by-le-length}
use Rattle.sed_engine.specs.Code.{Meaning}
use Rattle.node_events.specs.Delivering.{delivered}
use Rattle.node_events.specs.Node.{KeepsWindows, Node, Setup, live_sessions}
use Rattle.node_events.specs.Running.{Event, comes, offered, passes, run}
use Rattle.node_events.specs.Ticking.{ticked}
use Rattle.node_events.proofs.FewSent.{delivered_few, ticked_few}
use Rattle.node_events.proofs.Moments.{places_stay}

module _ (m : Meaning) (s : Setup) where
  pub run_live : (n : Node) (events : List Event) → length n.sessions.sessions ≡ 16 → live_sessions (run m s n events).node ≤ 16
  run_live n events sixteen =
      let few = count_by-le-length is_some (run m s n events).node.sessions.sessions in
      let same = places_stay m s n events in
      omega arith

  pub run_offered : (n : Node) (events : List Event) → KeepsWindows n.sessions → offered (run m s n events) ≤ 496 * length events
  run_offered n [] keeps = omega arith
  run_offered n (comes from heard mishap ∷ events) keeps =
      let d = delivered m s n from heard mishap in
      let one = (delivered_few m s n from heard mishap keeps).0 in
      let rest = run_offered d.node events (delivered_few m s n from heard mishap keeps).1 in
      let both = length-append d.sent (run m s d.node events).sent in
      omega arith
  run_offered n (passes moment ∷ events) keeps =
      let t = ticked m s n moment in
      let one = (ticked_few m s n moment keeps).0 in
      let rest = run_offered t.node events (ticked_few m s n moment keeps).1 in
      let both = length-append t.sent (run m s t.node events).sent in
      omega arith
