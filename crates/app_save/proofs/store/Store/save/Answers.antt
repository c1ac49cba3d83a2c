use Rattle.std.proofs.Common.{◌∙◌, ℕ, Ok, Err, subst, IsTrue, if◌then◌else◌, Bool}
use Rattle.disk_model.specs.Disk.{MarksUp, During}
use Rattle.app_save.specs.Saving.{SinceSync, OpensAsBegun, AllOpen, KeepsEqualPages, TouchesSlot, WritesSlot, Renews, ClosesSlot}
use Rattle.app_save.specs.declared.refusal.SaveRefusal.TheVariants.{Device}
use Rattle.app_save.specs.declared.refusal.SaveRefusal.{SaveRefusal}
use Rattle.app_save.proofs.Moments.{then_time, then_marks, since_kept, since_self}
use Rattle.app_save.proofs.Whole.{untouched_moments, acknowledged_moments, acknowledged_all}
use Rattle.app_save.proofs.Entries.{run_after}
use Rattle.app_save.proofs.SlotWritten.{written_kept, renews_kept, closes_untouched, closes_acknowledged}
use Rattle.app_save.proofs.store.Store.save.Goals as goal

pub returns-then-payload-self-clause-moments : goal.returns-then-payload-self-clause-moments
returns-then-payload-self-clause-moments g c told = untouched_moments c.args.self.now c.args.payload.now (g.D.Disk.meaning c.args.disk.now) (c.requires.stores told)

pub returns-in-Err-Failed-clause-pages : goal.returns-in-Err-Failed-clause-pages
returns-in-Err-Failed-clause-pages g c told told_syncs =
    let a = g.D.Disk.meaning c.args.disk.now in
    subst (λ (S : ℕ). SinceSync a (g.D.Disk.meaning c.write_save.new.disk) (KeepsEqualPages S c.args.payload.now a.content)) c.self.view_is (c.write_save.ensures.pages told told_syncs)

pub returns-in-Err-Failed-clause-run : goal.returns-in-Err-Failed-clause-run
returns-in-Err-Failed-clause-run g c told told_marks fits start opened saves run =
    let a = g.D.Disk.meaning c.args.disk.now in
    let b = g.D.Disk.meaning c.write_save.new.disk in
    run_after {T = Unit {0}} c.args.self.now opened saves c.args.payload.now (Err Device) (g.D.Disk.meaning start) a b told told_marks run c.write_save.ensures.time tt c.write_save.ensures.marks
    (subst (λ (S : ℕ). During a b (OpensAsBegun S c.args.payload.now a)) c.self.view_is (c.write_save.ensures.moments told)) tt

pub returns-clause-moments : goal.returns-clause-moments
returns-clause-moments g c told =
    let a = g.D.Disk.meaning c.args.disk.now in
    let b = g.D.Disk.meaning c.write_save.new.disk in
    let told_b : IsTrue b.tells = c.write_save.ensures.time.told ∙ told in
    let first = subst (λ (S : ℕ). During a b (OpensAsBegun S c.args.payload.now a)) c.self.view_is (c.write_save.ensures.moments told) in
    acknowledged_moments c.args.self.now c.args.payload.now a b (g.D.Disk.meaning c.acknowledge.new.self) told c.write_save.ensures.time c.acknowledge.ensures.time first (c.acknowledge.ensures.keeps told_b)

pub returns-clause-pages : goal.returns-clause-pages
returns-clause-pages g c told told_syncs =
    let a = g.D.Disk.meaning c.args.disk.now in
    let b = g.D.Disk.meaning c.write_save.new.disk in
    let told_b : IsTrue b.tells = c.write_save.ensures.time.told ∙ told in
    let first = subst (λ (S : ℕ). SinceSync a b (KeepsEqualPages S c.args.payload.now a.content)) c.self.view_is (c.write_save.ensures.pages told told_syncs) in
    since_kept a b (g.D.Disk.meaning c.acknowledge.new.self) (KeepsEqualPages c.args.self.now c.args.payload.now a.content) told told_syncs c.write_save.ensures.time c.acknowledge.ensures.time first (c.acknowledge.ensures.keeps told_b) c.acknowledge.ensures.syncs

pub returns-clause-run : goal.returns-clause-run
returns-clause-run g c told told_marks fits start opened saves run =
    let a = g.D.Disk.meaning c.args.disk.now in
    let b = g.D.Disk.meaning c.write_save.new.disk in
    let d = g.D.Disk.meaning c.acknowledge.new.self in
    let told_b : IsTrue b.tells = c.write_save.ensures.time.told ∙ told in
    let first = subst (λ (S : ℕ). During a b (OpensAsBegun S c.args.payload.now a)) c.self.view_is (c.write_save.ensures.moments told) in
    let all = subst (λ (S : ℕ). AllOpen S c.args.payload.now b) c.self.view_is (c.in-Ok.ensures.saved told) in
    let one : MarksUp b d 1 = subst (λ (m : Bool). MarksUp b d (if m then 0 else 1)) c.in-Ok.ensures.unmarked c.acknowledge.ensures.marks in
    run_after {T = Unit {0}} {E = SaveRefusal} c.args.self.now opened saves c.args.payload.now (Ok (tt {0})) (g.D.Disk.meaning start) a d told told_marks run (then_time a b d c.write_save.ensures.time c.acknowledge.ensures.time)
    (then_marks a b d 1 c.write_save.ensures.time c.acknowledge.ensures.time c.write_save.ensures.marks one) (tt {0})
    (acknowledged_moments c.args.self.now c.args.payload.now a b d told c.write_save.ensures.time c.acknowledge.ensures.time first (c.acknowledge.ensures.keeps told_b))
    (acknowledged_all c.args.self.now c.args.payload.now b d c.acknowledge.ensures.time all (c.acknowledge.ensures.keeps told_b))

pub returns-then-payload-self-clause-touches : goal.returns-then-payload-self-clause-touches
returns-then-payload-self-clause-touches g c told told_syncs =
    let a = g.D.Disk.meaning c.args.disk.now in
    since_self a (TouchesSlot c.args.self.now c.args.payload.now a.content)

pub returns-in-Err-Failed-clause-touches : goal.returns-in-Err-Failed-clause-touches
returns-in-Err-Failed-clause-touches g c told told_syncs =
    let a = g.D.Disk.meaning c.args.disk.now in
    subst (λ (S : ℕ). SinceSync a (g.D.Disk.meaning c.write_save.new.disk) (TouchesSlot S c.args.payload.now a.content)) c.self.view_is (c.write_save.ensures.touches told told_syncs)

pub returns-clause-touches : goal.returns-clause-touches
returns-clause-touches g c told told_syncs =
    let a = g.D.Disk.meaning c.args.disk.now in
    let b = g.D.Disk.meaning c.write_save.new.disk in
    let told_b : IsTrue b.tells = c.write_save.ensures.time.told ∙ told in
    let first = subst (λ (S : ℕ). SinceSync a b (TouchesSlot S c.args.payload.now a.content)) c.self.view_is (c.write_save.ensures.touches told told_syncs) in
    since_kept a b (g.D.Disk.meaning c.acknowledge.new.self) (TouchesSlot c.args.self.now c.args.payload.now a.content) told told_syncs c.write_save.ensures.time c.acknowledge.ensures.time first (c.acknowledge.ensures.keeps told_b) c.acknowledge.ensures.syncs

pub returns-then-payload-self-clause-closes : goal.returns-then-payload-self-clause-closes
returns-then-payload-self-clause-closes g c told = closes_untouched c.args.self.now c.args.payload.now (g.D.Disk.meaning c.args.disk.now)

pub returns-in-Err-Failed-clause-closes : goal.returns-in-Err-Failed-clause-closes
returns-in-Err-Failed-clause-closes g c told =
    subst (λ (S : ℕ). ClosesSlot S c.args.payload.now (g.D.Disk.meaning c.args.disk.now) (g.D.Disk.meaning c.write_save.new.disk)) c.self.view_is (c.write_save.ensures.closes told)

pub returns-clause-closes : goal.returns-clause-closes
returns-clause-closes g c told =
    let a = g.D.Disk.meaning c.args.disk.now in
    let b = g.D.Disk.meaning c.write_save.new.disk in
    let told_b : IsTrue b.tells = c.write_save.ensures.time.told ∙ told in
    let first = subst (λ (S : ℕ). ClosesSlot S c.args.payload.now a b) c.self.view_is (c.write_save.ensures.closes told) in
    closes_acknowledged c.args.self.now c.args.payload.now a b (g.D.Disk.meaning c.acknowledge.new.self) told c.write_save.ensures.time c.acknowledge.ensures.time (c.acknowledge.ensures.keeps told_b) first

pub returns-clause-writes : goal.returns-clause-writes
returns-clause-writes g c told =
    let a = g.D.Disk.meaning c.args.disk.now in
    let b = g.D.Disk.meaning c.write_save.new.disk in
    let told_b : IsTrue b.tells = c.write_save.ensures.time.told ∙ told in
    let writes = subst (λ (S : ℕ). WritesSlot S c.args.payload.now a.content b) c.self.view_is (c.in-Ok.ensures.writes told) in
    written_kept c.args.self.now c.args.payload.now a.content b (g.D.Disk.meaning c.acknowledge.new.self) c.acknowledge.ensures.time (c.acknowledge.ensures.keeps told_b) writes

pub returns-clause-renews : goal.returns-clause-renews
returns-clause-renews g c told =
    let a = g.D.Disk.meaning c.args.disk.now in
    let b = g.D.Disk.meaning c.write_save.new.disk in
    let told_b : IsTrue b.tells = c.write_save.ensures.time.told ∙ told in
    let renews = subst (λ (S : ℕ). Renews S a.content b) c.self.view_is (c.in-Ok.ensures.renews told) in
    renews_kept c.args.self.now a.content b (g.D.Disk.meaning c.acknowledge.new.self) c.acknowledge.ensures.time (c.acknowledge.ensures.keeps told_b) renews
