use Rattle.std.proofs.Common.{subst}
use Rattle.std.specs.Prelude.{IfOk}
use Rattle.app_save.specs.Saving.{AllStores}
use Rattle.scode_code.specs.Image.{meaning_of}
use Rattle.sedona_cli.proofs.ReplaySteps.{ready_of, ready_stores, ready_wants}
use Rattle.sedona_cli.proofs.replaying.ready.Goals as goal

pub returns-in-Ok-clause-opened : goal.returns-in-Ok-clause-opened
returns-in-Ok-clause-opened g c =
    ready_of g.D.Disk c.args.disk.now c.open_app.new.disk _ _ c.args.words.store.now c.args.words.limit (meaning_of c.args.code) c.args.words.turns _ c.args.users c.args.secret _ c.node_of.result
    c.in-Ok.ensures.opened c.in-Ok.ensures.meaning c.node_of.ensures.ready

pub returns-in-Ok-clause-stores : goal.returns-in-Ok-clause-stores
returns-in-Ok-clause-stores g c = λ told.
    ready_stores c.node_of.result c.in-Ok.store (g.D.Disk.meaning c.open_app.new.disk)
    (subst (λ r. IfOk r (λ held. AllStores held.0 (g.D.Disk.meaning c.open_app.new.disk))) c.in-Ok.is (c.open_app.ensures.stores told)) c.node_of.ensures.slot

pub returns-in-Ok-clause-refused : goal.returns-in-Ok-clause-refused
returns-in-Ok-clause-refused g c =
    ready_wants g.D.Disk c.args.disk.now c.open_app.new.disk c.args.words.store.now c.args.words.limit (meaning_of c.args.code) _ c.node_of.result c.in-Ok.ensures.opened c.node_of.ensures.refused
