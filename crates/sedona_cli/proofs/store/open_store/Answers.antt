use Rattle.std.proofs.Common.{ℕ, List, Result, subst}
use Rattle.sedona_cli.specs.declared.refusal.Refusal.{Refusal}
use Rattle.sedona_cli.specs.Outside.{AsksDisk}
use Rattle.sedona_cli.specs.Store.{OpenedOrWants, payload_of}
use Rattle.sedona_cli.proofs.store.open_store.Goals as goal

pub returns-in-Ok : goal.returns-in-Ok
returns-in-Ok g c =
    subst (λ (r : Result (ℕ × List ℕ) Refusal). AsksDisk g.D.Disk c.args.disk.now c.open_with_slot.new.disk (λ asks. OpenedOrWants asks (payload_of r))) c.in-Ok.is c.open_with_slot.ensures.asks

pub returns-in-Err : goal.returns-in-Err
returns-in-Err g c =
    subst (λ (r : Result (ℕ × List ℕ) Refusal). AsksDisk g.D.Disk c.args.disk.now c.open_with_slot.new.disk (λ asks. OpenedOrWants asks (payload_of r))) c.in-Err.is c.open_with_slot.ensures.asks
