use Rattle.std.proofs.Common.{◌≡◌, ◌∙◌, ◌+◌, subst, IsTrue, Result, Ok}
use Rattle.disk_model.specs.Disk.{Image}
use Rattle.disk_model.specs.declared.disk.DiskFault.{DiskFault}
use Rattle.app_save.specs.Slots.{IsHeader}
use Rattle.app_save.specs.Stages.{Settled}
use Rattle.app_save.proofs.Moments.{settled_on, settled_sync, then_time}
use Rattle.app_save.proofs.save.settle.Goals as goal

pub returns-clause-place : goal.returns-clause-place
returns-clause-place g c told =
    let a = g.D.Disk.meaning c.args.disk.now in
    let b = g.D.Disk.meaning c.sync.new.self in
    let d = g.D.Disk.meaning c.read_header.new.disk in
    let told_b : IsTrue b.tells = c.sync.ensures.time.told ∙ told in
    let told_d : IsTrue d.tells = c.read_header.ensures.time.told ∙ told_b in
    let same_b : b.content ≡ a.content = (c.in_ok-sync.ensures.durable told).kept in
    let same_d : d.content ≡ a.content = (c.read_header.ensures.keeps told_b).content ∙ same_b in
    c.place_of.ensures.place a.content
    (subst (λ (i : Image). IsHeader i 0 c.in_ok-first.first) same_b (c.in_ok-first.ensures.header told_b))
    (subst (λ (i : Image). IsHeader i (c.args.slot + 6) c.in_ok-second.second) same_d (subst (λ n. IsHeader d.content n c.in_ok-second.second) c.second_slot.ensures (c.in_ok-second.ensures.header told_d)))
    (c.requires.stores told a.content (g.met.D.Disk.is_disk c.args.disk.now told))

pub returns-clause-settled : goal.returns-clause-settled
returns-clause-settled g c = λ told.
    let a = g.D.Disk.meaning c.args.disk.now in
    let s = g.D.Disk.meaning c.sync.new.self in
    let h = g.D.Disk.meaning c.read_header.new.disk in
    let e = g.D.Disk.meaning c.read_header-2.new.disk in
    let told_s : IsTrue s.tells = c.sync.ensures.time.told ∙ told in
    let told_h : IsTrue h.tells = c.read_header.ensures.time.told ∙ told_s in
    let to_h = then_time a s h c.sync.ensures.time c.read_header.ensures.time in
    let done : Result (Unit {0}) DiskFault = Ok (tt {0}) in
    let synced = settled_sync c.in_ok-sync.field-0 a s (c.in_ok-sync.ensures.durable told) c.in_ok-sync.ensures.syncs in
    let first : Settled done a h = settled_on c.in_ok-sync.field-0 done a s h told c.sync.ensures.time c.read_header.ensures.time synced (c.read_header.ensures.keeps told_s) in
    settled_on (tt {0}) (Ok c.place_of.result) a h e told to_h c.read_header-2.ensures.time first (c.read_header-2.ensures.keeps told_h)
