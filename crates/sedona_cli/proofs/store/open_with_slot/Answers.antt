use Rattle.std.proofs.Common.{ℕ, List, Result, Ok, Err, ap, sym, subst, ◌∙◌}
use Rattle.app_save.specs.declared.refusal.SaveRefusal.{SaveRefusal}
use Rattle.sedona_cli.specs.Outside.{AsksDisk}
use Rattle.sedona_cli.specs.Store.{OpenedOrWants}
use Rattle.std.specs.Prelude.{IfOk}
use Rattle.app_save.specs.Saving.{AllOpen}
use Rattle.sedona_cli.proofs.ReplaySteps.{stores_open}
use Rattle.sedona_cli.proofs.Opening.{Openings, asked_opened, asked_none, asked_unread, asked_unheld}
use Rattle.sedona_cli.proofs.store.open_with_slot.Goals as goal

pub returns-in-Ok-clause-asks : goal.returns-in-Ok-clause-asks
returns-in-Ok-clause-asks g c =
    subst (λ (p : List ℕ). AsksDisk g.D.Disk c.args.disk.now c.open.new.disk (λ asks. OpenedOrWants asks (Ok p))) (sym c.new.ensures)
    (asked_opened g.D.Disk c.args.disk.now c.open.new.disk c.open.new.into.items c.in-Ok.store
    (subst (λ (r : Result ℕ SaveRefusal). Openings c.open.new.into.items r (g.D.Disk.meaning c.args.disk.now) (g.D.Disk.meaning c.open.new.disk)) c.in-Ok.is (record {
      opens = c.open.ensures.opens;
      moments = c.open.ensures.moments;
      since = c.open.ensures.since;
      opened = c.open.ensures.opened;
      content = c.open.ensures.content;
      time = c.open.ensures.time;
      marks = c.open.ensures.marks;
      syncs = c.open.ensures.syncs;
      attached = c.open.ensures.attached;
      not_a_store = c.open.ensures.not_a_store;
      cause = c.open.ensures.cause;
      calls = c.open.ensures.calls;
    })))

pub returns-in-Err-NotAStore-clause-asks : goal.returns-in-Err-NotAStore-clause-asks
returns-in-Err-NotAStore-clause-asks g c =
    asked_none g.D.Disk c.args.disk.now c.open.new.disk c.open.new.into.items
    (subst (λ (r : Result ℕ SaveRefusal). Openings c.open.new.into.items r (g.D.Disk.meaning c.args.disk.now) (g.D.Disk.meaning c.open.new.disk)) (c.in-Err-NotAStore.is ∙ ap Err c.in-Err-NotAStore.field-0-is) (record {
      opens = c.open.ensures.opens;
      moments = c.open.ensures.moments;
      since = c.open.ensures.since;
      opened = c.open.ensures.opened;
      content = c.open.ensures.content;
      time = c.open.ensures.time;
      marks = c.open.ensures.marks;
      syncs = c.open.ensures.syncs;
      attached = c.open.ensures.attached;
      not_a_store = c.open.ensures.not_a_store;
      cause = c.open.ensures.cause;
      calls = c.open.ensures.calls;
    }))

pub returns-in-Err-Device-clause-asks : goal.returns-in-Err-Device-clause-asks
returns-in-Err-Device-clause-asks g c =
    asked_unread g.D.Disk c.args.disk.now c.open.new.disk c.open.new.into.items
    (subst (λ (r : Result ℕ SaveRefusal). Openings c.open.new.into.items r (g.D.Disk.meaning c.args.disk.now) (g.D.Disk.meaning c.open.new.disk)) (c.in-Err-Device.is ∙ ap Err c.in-Err-Device.field-0-is) (record {
      opens = c.open.ensures.opens;
      moments = c.open.ensures.moments;
      since = c.open.ensures.since;
      opened = c.open.ensures.opened;
      content = c.open.ensures.content;
      time = c.open.ensures.time;
      marks = c.open.ensures.marks;
      syncs = c.open.ensures.syncs;
      attached = c.open.ensures.attached;
      not_a_store = c.open.ensures.not_a_store;
      cause = c.open.ensures.cause;
      calls = c.open.ensures.calls;
    }))

pub returns-in-Err-Memory-clause-asks : goal.returns-in-Err-Memory-clause-asks
returns-in-Err-Memory-clause-asks g c =
    asked_unheld g.D.Disk c.args.disk.now c.open.new.disk c.open.new.into.items
    (subst (λ (r : Result ℕ SaveRefusal). Openings c.open.new.into.items r (g.D.Disk.meaning c.args.disk.now) (g.D.Disk.meaning c.open.new.disk)) (c.in-Err-Memory.is ∙ ap Err c.in-Err-Memory.field-0-is) (record {
      opens = c.open.ensures.opens;
      moments = c.open.ensures.moments;
      since = c.open.ensures.since;
      opened = c.open.ensures.opened;
      content = c.open.ensures.content;
      time = c.open.ensures.time;
      marks = c.open.ensures.marks;
      syncs = c.open.ensures.syncs;
      attached = c.open.ensures.attached;
      not_a_store = c.open.ensures.not_a_store;
      cause = c.open.ensures.cause;
      calls = c.open.ensures.calls;
    }))

pub returns-in-Ok-clause-slots : goal.returns-in-Ok-clause-slots
returns-in-Ok-clause-slots g c = λ told.
    stores_open c.in-Ok.store c.open.new.into.items (g.D.Disk.meaning c.open.new.disk)
    (subst (λ (r : Result ℕ SaveRefusal). IfOk r (λ S. AllOpen S c.open.new.into.items (g.D.Disk.meaning c.open.new.disk))) c.in-Ok.is (c.open.ensures.opened (sym c.open.ensures.time.told ∙ told)))
