use Rattle.std.proofs.Common.{IsTrue, Result, Ok, ◌∙◌}
use Rattle.disk_model.specs.Disk.{Elapses}
use Rattle.disk_model.specs.declared.disk.DiskFault.{DiskFault}
use Rattle.app_save.specs.Saving.{SyncsOnce}
use Rattle.app_save.specs.Stages.{Settled}
use Rattle.app_save.proofs.Moments.{settled_on, settled_sync, then_synced, then_time}
use Rattle.app_save.proofs.opening.find.Goals.{After-read_header}
use Rattle.app_save.proofs.opening.find.Goals as goal

abbrev done : Result (Unit {0}) DiskFault
done = Ok (tt {0})

-- up to the size, and to the first header
sized_at : (g : _) (c : After-read_header g) → Elapses (g.D.Disk.meaning c.args.disk.now) (g.D.Disk.meaning c.size.new.self)
sized_at g c = then_time (g.D.Disk.meaning c.args.disk.now) (g.D.Disk.meaning c.sync.new.self) (g.D.Disk.meaning c.size.new.self) c.sync.ensures.time c.size.ensures.time

first_at : (g : _) (c : After-read_header g) → Elapses (g.D.Disk.meaning c.args.disk.now) (g.D.Disk.meaning c.read_header.new.disk)
first_at g c = then_time (g.D.Disk.meaning c.args.disk.now) (g.D.Disk.meaning c.size.new.self) (g.D.Disk.meaning c.read_header.new.disk) (sized_at g c) c.read_header.ensures.time

settled_at : (g : _) (c : After-read_header g) → IsTrue (g.D.Disk.meaning c.args.disk.now).tells → Settled done (g.D.Disk.meaning c.args.disk.now) (g.D.Disk.meaning c.read_header.new.disk)
settled_at g c told =
    let a = g.D.Disk.meaning c.args.disk.now in
    let s = g.D.Disk.meaning c.sync.new.self in
    let z = g.D.Disk.meaning c.size.new.self in
    let told_s : IsTrue s.tells = c.sync.ensures.time.told ∙ told in
    let told_z : IsTrue z.tells = c.size.ensures.time.told ∙ told_s in
    let synced = settled_sync c.in_ok-sync.field-0 a s (c.in_ok-sync.ensures.durable told) c.in_ok-sync.ensures.syncs in
    let sized : Settled done a z = settled_on c.in_ok-sync.field-0 done a s z told c.sync.ensures.time c.size.ensures.time synced (c.size.ensures.keeps told_s) in
    settled_on (tt {0}) done a z (g.D.Disk.meaning c.read_header.new.disk) told (sized_at g c) c.read_header.ensures.time sized (c.read_header.ensures.keeps told_z)

pub returns-in_err-second-clause-settled : goal.returns-in_err-second-clause-settled
returns-in_err-second-clause-settled g c = λ told.
    let at = (goal.at.returns-in_err-second-clause-settled g c).After-read_header in
    let h = g.D.Disk.meaning c.read_header.new.disk in
    let to_h = first_at g at in
    settled_on (tt {0}) c.from_residual-in_err-second.result (g.D.Disk.meaning c.args.disk.now) h (g.D.Disk.meaning c.read_header-2.new.disk) told to_h c.read_header-2.ensures.time (settled_at g at told) (c.read_header-2.ensures.keeps (to_h.told ∙ told))

pub returns-clause-settled : goal.returns-clause-settled
returns-clause-settled g c = λ told.
    let at = (goal.at.returns-clause-settled g c).After-read_header in
    let h = g.D.Disk.meaning c.read_header.new.disk in
    let to_h = first_at g at in
    settled_on (tt {0}) (Ok c.found_in.result) (g.D.Disk.meaning c.args.disk.now) h (g.D.Disk.meaning c.read_header-2.new.disk) told to_h c.read_header-2.ensures.time (settled_at g at told) (c.read_header-2.ensures.keeps (to_h.told ∙ told))

pub returns-clause-syncs : goal.returns-clause-syncs
returns-clause-syncs g c =
    let at = (goal.at.returns-clause-syncs g c).After-read_header in
    let a = g.D.Disk.meaning c.args.disk.now in
    let s = g.D.Disk.meaning c.sync.new.self in
    let z = g.D.Disk.meaning c.size.new.self in
    let h = g.D.Disk.meaning c.read_header.new.disk in
    let once : SyncsOnce a s = λ told. (c.in_ok-sync.ensures.syncs told).at_end in
    let sized = then_synced a s z c.sync.ensures.time once c.size.ensures.syncs in
    let first = then_synced a z h (sized_at g at) sized c.read_header.ensures.syncs in
    then_synced a h (g.D.Disk.meaning c.read_header-2.new.disk) (first_at g at) first c.read_header-2.ensures.syncs
