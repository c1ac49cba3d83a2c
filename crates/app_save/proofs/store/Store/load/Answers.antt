use Rattle.app_save.proofs.Entries.{run_kept}
use Rattle.app_save.proofs.store.Store.load.Goals as goal

pub returns-clause-run : goal.returns-clause-run
returns-clause-run g c told told_marks start opened saves run =
    run_kept c.args.self.now opened saves (g.D.Disk.meaning start) (g.D.Disk.meaning c.args.disk.now) (g.D.Disk.meaning c.load_newest.new.disk) told told_marks run c.load_newest.ensures.time c.load_newest.ensures.marks (c.load_newest.ensures.moments told)
