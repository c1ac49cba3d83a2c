use Rattle.std.proofs.Common.{ℕ, List, Result, subst}
use Rattle.std.specs.Prelude.{IfOk}
use Rattle.app_save.specs.Saving.{AllStores}
use Rattle.sedona_cli.specs.declared.refusal.Refusal.{Refusal}
use Rattle.sedona_cli.specs.Outside.{AsksDisk}
use Rattle.sedona_cli.specs.Store.{OpenedOrWants, StoreAttached, payload_of}
use Rattle.link_prop.specs.Linked.{application_of}
use Rattle.scode_code.specs.Image.{meaning_of}
use Rattle.scode_engine.specs.contracts.machine.MachineEngine.TheImpl as machine
use Rattle.sedona_cli.proofs.ReplaySteps.{app_opened, app_refused, same_slots, unattached, unopened}
use Rattle.sedona_cli.proofs.nodes.open_app.Goals as goal

pub returns-in-Err-clause-refused : goal.returns-in-Err-clause-refused
returns-in-Err-clause-refused g c =
    unattached g.D.Disk c.args.disk.now c.attach_store.new.disk c.args.words.store.now c.args.words.limit (meaning_of c.args.code) c.in-Err.refusal
    (subst (λ (r : Result (Unit {0}) Refusal). AsksDisk g.D.Disk c.args.disk.now c.attach_store.new.disk (λ asks. StoreAttached c.args.words.store.now asks r)) c.in-Err.is c.attach_store.ensures)

pub returns-in-Ok-open_with_slot-clause-opened : goal.returns-in-Ok-open_with_slot-clause-opened
returns-in-Ok-open_with_slot-clause-opened g c =
    app_opened g.D.Disk c.args.disk.now c.attach_store.new.disk c.open_with_slot.new.disk c.args.words.store.now c.args.words.limit (meaning_of c.args.code) c.in-Ok-open_with_slot.found.1
    (λ held. application_of machine.ghosts held.1) c.app_in.result
    (subst (λ (r : Result (Unit {0}) Refusal). AsksDisk g.D.Disk c.args.disk.now c.attach_store.new.disk (λ asks. StoreAttached c.args.words.store.now asks r)) c.in-Ok.is c.attach_store.ensures)
    (subst (λ (r : Result (ℕ × List ℕ) Refusal). AsksDisk g.D.Disk c.attach_store.new.disk c.open_with_slot.new.disk (λ asks. OpenedOrWants asks (payload_of r))) c.in-Ok-open_with_slot.is c.open_with_slot.ensures.asks)
    c.app_in.ensures.read

pub returns-in-Ok-open_with_slot-clause-meaning : goal.returns-in-Ok-open_with_slot-clause-meaning
returns-in-Ok-open_with_slot-clause-meaning g c = c.app_in.ensures.meaning

pub returns-in-Ok-open_with_slot-clause-whole : goal.returns-in-Ok-open_with_slot-clause-whole
returns-in-Ok-open_with_slot-clause-whole g c = c.app_in.ensures.whole

pub returns-in-Ok-open_with_slot-clause-stores : goal.returns-in-Ok-open_with_slot-clause-stores
returns-in-Ok-open_with_slot-clause-stores g c = λ told.
    same_slots c.app_in.result c.in-Ok-open_with_slot.found.0 (g.D.Disk.meaning c.open_with_slot.new.disk)
    (subst (λ (r : Result (ℕ × List ℕ) Refusal). IfOk r (λ found. AllStores found.0 (g.D.Disk.meaning c.open_with_slot.new.disk))) c.in-Ok-open_with_slot.is (c.open_with_slot.ensures.slots told)) c.app_in.ensures.slot

pub returns-in-Ok-open_with_slot-clause-refused : goal.returns-in-Ok-open_with_slot-clause-refused
returns-in-Ok-open_with_slot-clause-refused g c =
    app_refused g.D.Disk c.args.disk.now c.attach_store.new.disk c.open_with_slot.new.disk c.args.words.store.now c.args.words.limit (meaning_of c.args.code) c.in-Ok-open_with_slot.found.1 c.app_in.result
    (subst (λ (r : Result (Unit {0}) Refusal). AsksDisk g.D.Disk c.args.disk.now c.attach_store.new.disk (λ asks. StoreAttached c.args.words.store.now asks r)) c.in-Ok.is c.attach_store.ensures)
    (subst (λ (r : Result (ℕ × List ℕ) Refusal). AsksDisk g.D.Disk c.attach_store.new.disk c.open_with_slot.new.disk (λ asks. OpenedOrWants asks (payload_of r))) c.in-Ok-open_with_slot.is c.open_with_slot.ensures.asks)
    c.app_in.ensures.refused

pub returns-in-Err-open_with_slot-clause-refused : goal.returns-in-Err-open_with_slot-clause-refused
returns-in-Err-open_with_slot-clause-refused g c =
    unopened g.D.Disk c.args.disk.now c.attach_store.new.disk c.open_with_slot.new.disk c.args.words.store.now c.args.words.limit (meaning_of c.args.code) c.in-Err-open_with_slot.refusal
    (subst (λ (r : Result (Unit {0}) Refusal). AsksDisk g.D.Disk c.args.disk.now c.attach_store.new.disk (λ asks. StoreAttached c.args.words.store.now asks r)) c.in-Ok.is c.attach_store.ensures)
    (subst (λ (r : Result (ℕ × List ℕ) Refusal). AsksDisk g.D.Disk c.attach_store.new.disk c.open_with_slot.new.disk (λ asks. OpenedOrWants asks (payload_of r))) c.in-Err-open_with_slot.is c.open_with_slot.ensures.asks)
