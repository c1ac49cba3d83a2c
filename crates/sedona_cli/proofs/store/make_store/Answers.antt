use Rattle.std.proofs.Common.{ℕ, Result, Err, ap, subst, ◌∙◌}
use Rattle.app_save.specs.declared.refusal.SaveRefusal.{SaveRefusal}
use Rattle.sedona_cli.proofs.Attaching.{Makings, asked_made, asked_found, asked_failed}
use Rattle.sedona_cli.proofs.store.make_store.Goals as goal

pub returns-in-Ok : goal.returns-in-Ok
returns-in-Ok g c =
    asked_made g.D.Disk c.args.disk.now c.make.new.disk c.args.slot c.args.payload.now c.in-Ok.field-0
    (subst (λ (r : Result ℕ SaveRefusal). Makings c.args.slot c.args.payload.now r (g.D.Disk.meaning c.args.disk.now) (g.D.Disk.meaning c.make.new.disk)) c.in-Ok.is (record {
      time = c.make.ensures.time;
      attached = c.make.ensures.attached;
      made = c.make.ensures.made;
      bound = c.make.ensures.bound;
      mark = c.make.ensures.mark;
      no_mark = c.make.ensures.no_mark;
      empty = c.make.ensures.empty;
      not_empty = c.make.ensures.not_empty;
      kept = c.make.ensures.kept;
      cause = c.make.ensures.cause;
    }))

pub returns-in-Err-NotEmpty : goal.returns-in-Err-NotEmpty
returns-in-Err-NotEmpty g c =
    asked_found {X = ℕ} g.D.Disk c.args.disk.now c.make.new.disk c.args.slot c.args.payload.now
    (subst (λ (r : Result ℕ SaveRefusal). Makings c.args.slot c.args.payload.now r (g.D.Disk.meaning c.args.disk.now) (g.D.Disk.meaning c.make.new.disk)) (c.in-Err-NotEmpty.is ∙ ap Err c.in-Err-NotEmpty.field-0-is) (record {
      time = c.make.ensures.time;
      attached = c.make.ensures.attached;
      made = c.make.ensures.made;
      bound = c.make.ensures.bound;
      mark = c.make.ensures.mark;
      no_mark = c.make.ensures.no_mark;
      empty = c.make.ensures.empty;
      not_empty = c.make.ensures.not_empty;
      kept = c.make.ensures.kept;
      cause = c.make.ensures.cause;
    }))

pub returns-in-Err-Device : goal.returns-in-Err-Device
returns-in-Err-Device g c =
    asked_failed {X = ℕ} g.D.Disk c.args.disk.now c.make.new.disk c.args.slot c.args.payload.now
    (subst (λ (r : Result ℕ SaveRefusal). Makings c.args.slot c.args.payload.now r (g.D.Disk.meaning c.args.disk.now) (g.D.Disk.meaning c.make.new.disk)) (c.in-Err-Device.is ∙ ap Err c.in-Err-Device.field-0-is) (record {
      time = c.make.ensures.time;
      attached = c.make.ensures.attached;
      made = c.make.ensures.made;
      bound = c.make.ensures.bound;
      mark = c.make.ensures.mark;
      no_mark = c.make.ensures.no_mark;
      empty = c.make.ensures.empty;
      not_empty = c.make.ensures.not_empty;
      kept = c.make.ensures.kept;
      cause = c.make.ensures.cause;
    }))
