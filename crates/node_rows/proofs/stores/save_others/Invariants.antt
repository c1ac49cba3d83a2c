use Rattle.std.proofs.Common.{IsTrue}
use Rattle.app_save.specs.Saving.{AllStores}
use Rattle.node_rows.proofs.stores.save_others.Given as goal

abbrev pub invariant-loop-payload : goal.invariant-loop-payload
invariant-loop-payload g l = IsTrue (g.D.Disk.meaning l.disk).tells → AllStores l.store (g.D.Disk.meaning l.disk)
