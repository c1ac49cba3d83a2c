use Rattle.std.proofs.Common.{List, ℕ, Result, subst}
use Rattle.sedona_cli.specs.declared.refusal.Refusal.{Refusal}
use Rattle.sed_engine.specs.Program.{meaning_of}
use Rattle.sedona_cli.specs.Outside.{AsksDisk}
use Rattle.sedona_cli.specs.Show.{PrintedOrWants}
use Rattle.sedona_cli.specs.Store.{OpenedOrWants, StoreAttached}
use Rattle.sedona_cli.proofs.ShowSteps.{all_shown, unattached, unopened}
use Rattle.sedona_cli.proofs.showing.shown_of.Goals as goal

pub returns-in-Err : goal.returns-in-Err
returns-in-Err g c =
    unattached g.D.Disk c.args.disk.now c.attach_store.new.disk c.args.store.now c.args.limit c.args.program c.in-Err.refusal
    (subst (λ (r : Result (Unit {0}) Refusal). AsksDisk g.D.Disk c.args.disk.now c.attach_store.new.disk (λ asks. StoreAttached c.args.store.now asks r)) c.in-Err.is c.attach_store.ensures)

pub returns-in-Ok-open_store : goal.returns-in-Ok-open_store
returns-in-Ok-open_store g c =
    all_shown g.D.Disk c.args.disk.now c.attach_store.new.disk c.open_store.new.disk c.args.store.now c.args.limit c.args.program c.in-Ok-open_store.payload c.printed.result
    (subst (λ (r : Result (Unit {0}) Refusal). AsksDisk g.D.Disk c.args.disk.now c.attach_store.new.disk (λ asks. StoreAttached c.args.store.now asks r)) c.in-Ok.is c.attach_store.ensures)
    (subst (λ (r : Result (List ℕ) Refusal). AsksDisk g.D.Disk c.attach_store.new.disk c.open_store.new.disk (λ asks. OpenedOrWants asks r)) c.in-Ok-open_store.is c.open_store.ensures)
    (subst (λ (p : List ℕ). PrintedOrWants (meaning_of c.args.program) c.args.limit p c.printed.result) c.as_slice.ensures c.printed.ensures)

pub returns-in-Err-open_store : goal.returns-in-Err-open_store
returns-in-Err-open_store g c =
    unopened g.D.Disk c.args.disk.now c.attach_store.new.disk c.open_store.new.disk c.args.store.now c.args.limit c.args.program c.in-Err-open_store.refusal
    (subst (λ (r : Result (Unit {0}) Refusal). AsksDisk g.D.Disk c.args.disk.now c.attach_store.new.disk (λ asks. StoreAttached c.args.store.now asks r)) c.in-Ok.is c.attach_store.ensures)
    (subst (λ (r : Result (List ℕ) Refusal). AsksDisk g.D.Disk c.attach_store.new.disk c.open_store.new.disk (λ asks. OpenedOrWants asks r)) c.in-Err-open_store.is c.open_store.ensures)
