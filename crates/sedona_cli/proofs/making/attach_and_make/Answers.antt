use Rattle.std.proofs.Common.{Result, subst}
use Rattle.sedona_cli.specs.declared.refusal.Refusal.{Refusal}
use Rattle.sedona_cli.specs.Outside.{AsksDisk}
use Rattle.sedona_cli.specs.Store.{StoreAttached}
use Rattle.sedona_cli.proofs.Building.{attach_goes, attach_stops}
use Rattle.sedona_cli.proofs.making.attach_and_make.Goals as goal

pub returns-in-Ok : goal.returns-in-Ok
returns-in-Ok g c =
    attach_goes g.D.Disk c.args.disk.now c.attach_store.new.disk c.make_store.new.disk c.args.store.now c.args.slot c.args.text.now c.make_store.result
    (subst (λ (r : Result (Unit {0}) Refusal). AsksDisk g.D.Disk c.args.disk.now c.attach_store.new.disk (λ asks. StoreAttached c.args.store.now asks r)) c.in-Ok.is c.attach_store.ensures)
    c.make_store.ensures

pub returns-in-Err : goal.returns-in-Err
returns-in-Err g c =
    attach_stops g.D.Disk c.args.disk.now c.attach_store.new.disk c.args.store.now c.args.slot c.args.text.now c.in-Err.refusal
    (subst (λ (r : Result (Unit {0}) Refusal). AsksDisk g.D.Disk c.args.disk.now c.attach_store.new.disk (λ asks. StoreAttached c.args.store.now asks r)) c.in-Err.is c.attach_store.ensures)
