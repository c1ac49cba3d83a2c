use Rattle.std.proofs.Common.{◌≡◌, length}
use Rattle.std.specs.Prelude.{IsTrue}
use Rattle.disk_model.specs.Disk.{Elapses}
use Rattle.app_save.specs.Saving.{AllStores}
use Rattle.node_events.specs.Node.{Node}
use Rattle.sed_node.specs.Standing.{SameSetup, StandsFor, code_of, is_fixed, setup_of}
use Rattle.sed_node.proofs.Runs.{Ran}
use Rattle.sed_node.proofs.node.Node.run.Given as goal

-- the entries before those that are left were handled
abbrev pub invariant-entries : goal.invariant-entries
invariant-entries g l = record {
  same : SameSetup g.E.Engine l.initial.self-inside.kept l.self-inside.kept;
  stores : IsTrue (g.D.Disk.meaning l.fn.disk).tells
      → AllStores (setup_of l.initial.self-inside.kept).slot (g.D.Disk.meaning l.disk);
  attached : (g.D.Disk.meaning l.disk).attached ≡ (g.D.Disk.meaning l.fn.disk).attached;
  time : Elapses (g.D.Disk.meaning l.fn.disk) (g.D.Disk.meaning l.disk);
  faults : g.S.Sink.faults l.out ≡ g.S.Sink.faults l.fn.out;
  so_far : (n : Node) → StandsFor g.E.Engine l.initial.self-inside.kept n
      → Ran g.E.Engine g.D.Disk.meaning (is_fixed g.E.Engine l.initial.self-inside.kept) (code_of g.E.Engine l.initial.self-inside.kept)
      (setup_of l.initial.self-inside.kept) l.self-inside.kept n l.fn.records l.left l.ended (g.S.Sink.text l.fn.out) (g.S.Sink.text l.out)
      l.fn.disk l.disk;
}

-- each entry is handled once
abbrev pub decreases-entries : goal.decreases-entries
decreases-entries g l = length l.left
