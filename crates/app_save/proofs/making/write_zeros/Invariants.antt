use Rattle.std.proofs.Common.{◌≡◌, ◌≤◌, ◌*◌, min, length, IsTrue}
use Rattle.disk_model.specs.Disk.{Elapses, During, MarksUp, SyncsUp}
use Rattle.app_save.specs.Making.{IsBlank, NoneLonger}
use Rattle.app_save.proofs.making.write_zeros.Given as goal

abbrev pub invariant-loop-q : goal.invariant-loop-q
invariant-loop-q g l = record {
  time : Elapses (g.D.Disk.meaning l.initial.disk) (g.D.Disk.meaning l.disk);
  marks : MarksUp (g.D.Disk.meaning l.initial.disk) (g.D.Disk.meaning l.disk) 0;
  syncs : SyncsUp (g.D.Disk.meaning l.initial.disk) (g.D.Disk.meaning l.disk) 0;
  attached : (g.D.Disk.meaning l.disk).attached ≡ (g.D.Disk.meaning l.initial.disk).attached;
  faults : (g.D.Disk.meaning l.disk).faults ≡ (g.D.Disk.meaning l.initial.disk).faults;
  blank : IsTrue (g.D.Disk.meaning l.initial.disk).tells → IsBlank (min (512 * l.q) l.len) (g.D.Disk.meaning l.disk).content;
  bound : IsTrue (g.D.Disk.meaning l.initial.disk).tells → NoneLonger l.len (g.D.Disk.meaning l.initial.disk) → During (g.D.Disk.meaning l.initial.disk) (g.D.Disk.meaning l.disk) (λ c. length c ≤ l.len);
}
