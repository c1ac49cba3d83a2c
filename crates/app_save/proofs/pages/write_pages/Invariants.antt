use Rattle.std.proofs.Common.{◌≡◌, ◌+◌, length, IsTrue}
use Rattle.disk_model.specs.Disk.{Elapses, During, IsTorn, MarksUp}
use Rattle.app_save.proofs.PageSteps.{SoFar}
use Rattle.app_save.proofs.pages.write_pages.Given as goal

abbrev pub invariant-loop-q : goal.invariant-loop-q
invariant-loop-q g l = record {
  time : Elapses (g.D.Disk.meaning l.initial.disk) (g.D.Disk.meaning l.disk);
  marks : MarksUp (g.D.Disk.meaning l.initial.disk) (g.D.Disk.meaning l.disk) 0;
  attached : (g.D.Disk.meaning l.disk).attached ≡ (g.D.Disk.meaning l.initial.disk).attached;
  faults : (g.D.Disk.meaning l.disk).faults ≡ (g.D.Disk.meaning l.initial.disk).faults;
  so_far : IsTrue (g.D.Disk.meaning l.initial.disk).tells → SoFar l.slot l.place.newest l.place.other l.payload l.q (g.D.Disk.meaning l.initial.disk) (g.D.Disk.meaning l.disk);
  touches : IsTrue (g.D.Disk.meaning l.initial.disk).tells → During (g.D.Disk.meaning l.initial.disk) (g.D.Disk.meaning l.disk) (IsTorn (l.place.other + 6) (length l.payload) (g.D.Disk.meaning l.initial.disk));
}
