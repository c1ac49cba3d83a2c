use Rattle.std.proofs.Common.{◌≡◌, ◌≤◌, ◌+◌, ◌*◌}
use Rattle.std.specs.Prelude.{◌-◌, IsTrue}
use Rattle.disk_model.specs.Disk.{Elapses}
use Rattle.app_save.specs.Saving.{AllStores}
use Rattle.node_events.specs.Node.{Node}
use Rattle.sed_node.specs.Standing.{SameSetup, StandsFor, code_of, is_fixed, setup_of}
use Rattle.sed_node.proofs.Leaving.{IsLeaving}
use Rattle.sed_node.proofs.Lives.{RanLive, Slept}
use Rattle.sed_node.proofs.node.Node.live.Given as goal

-- so many cycles were done, and of the next one some polls
abbrev pub invariant-events : goal.invariant-events
invariant-events g l = record {
  most : l.done ≤ l.fn.cycles;
  same : SameSetup g.E.Engine l.initial.self-inside.kept l.self-inside.kept;
  stores : IsTrue (g.D.Disk.meaning l.fn.disk).tells
      → AllStores (setup_of l.initial.self-inside.kept).slot (g.D.Disk.meaning l.disk);
  attached : (g.D.Disk.meaning l.disk).attached ≡ (g.D.Disk.meaning l.fn.disk).attached;
  time : Elapses (g.D.Disk.meaning l.fn.disk) (g.D.Disk.meaning l.disk);
  bound : g.L.Link.bound l.link ≡ g.L.Link.bound l.fn.link;
  slept : Slept (g.C.Clock.moments l.fn.clock) (g.C.Clock.moments l.clock) (g.C.Clock.given l.fn.clock)
      (g.C.Clock.given l.clock) l.done l.fn.period l.first (g.C.Clock.asked l.fn.clock) (g.C.Clock.asked l.clock);
  left : IsLeaving l.fn.cycles (g.L.Link.polls l.fn.link) (g.L.Link.polls l.link) (g.C.Clock.moments l.fn.clock)
      (g.C.Clock.moments l.clock) l.round (l.fn.cycles - l.done);
  so_far : (n : Node) → StandsFor g.E.Engine l.initial.self-inside.kept n
      → RanLive g.E.Engine g.D.Disk.meaning (is_fixed g.E.Engine l.initial.self-inside.kept) (code_of g.E.Engine l.initial.self-inside.kept)
      (setup_of l.initial.self-inside.kept) l.self-inside.kept n (g.L.Link.polls l.fn.link) (g.C.Clock.moments l.fn.clock) l.fn.cycles l.round
      (g.L.Link.polls l.link) (g.C.Clock.moments l.clock) (l.fn.cycles - l.done) l.ended
      (g.L.Link.polled l.fn.link) (g.L.Link.polled l.link) (g.L.Link.offered l.fn.link) (g.L.Link.offered l.link) l.fn.disk l.disk;
}

-- each cycle has at most 16 polls
abbrev pub decreases-events : goal.decreases-events
decreases-events g l = 17 * (l.fn.cycles - l.done) + l.round
