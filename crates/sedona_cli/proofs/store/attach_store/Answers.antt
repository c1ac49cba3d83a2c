use Rattle.std.proofs.Common.{Result, subst}
use Rattle.disk_model.specs.declared.disk.DiskFault.{DiskFault}
use Rattle.sedona_cli.specs.Outside.{AsksDisk}
use Rattle.sedona_cli.specs.Store.{StoreAttached}
use Rattle.sedona_cli.proofs.Attaching.{attach_answer, attach_asked}
use Rattle.sedona_cli.proofs.store.attach_store.Goals as goal

pub returns-in-Ok : goal.returns-in-Ok
returns-in-Ok g c =
    subst (λ (r : Result (Unit {0}) DiskFault). AsksDisk g.D.Disk c.args.disk.now c.attach.new.self (λ asks. StoreAttached c.args.name.now asks (attach_answer r))) c.in-Ok.is
    (attach_asked g.D.Disk c.args.disk.now c.attach.new.self c.args.name.now c.attach.result c.attach.ensures.time c.attach.ensures.attached c.attach.ensures.keeps c.attach.ensures.marks c.attach.ensures.syncs c.attach.ensures.cause c.attach.ensures.calls)

pub returns-in-Err : goal.returns-in-Err
returns-in-Err g c =
    subst (λ (r : Result (Unit {0}) DiskFault). AsksDisk g.D.Disk c.args.disk.now c.attach.new.self (λ asks. StoreAttached c.args.name.now asks (attach_answer r))) c.in-Err.is
    (attach_asked g.D.Disk c.args.disk.now c.attach.new.self c.args.name.now c.attach.result c.attach.ensures.time c.attach.ensures.attached c.attach.ensures.keeps c.attach.ensures.marks c.attach.ensures.syncs c.attach.ensures.cause c.attach.ensures.calls)
