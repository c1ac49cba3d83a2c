use Rattle.std.proofs.Common.{◌∙◌, IsTrue, refl}
use Rattle.app_save.proofs.Bytes.{held_part}
use Rattle.app_save.proofs.Moments.{keeps_then_writes}
use Rattle.app_save.proofs.pages.write_page.Goals as goal

pub returns-clause-writes : goal.returns-clause-writes
returns-clause-writes g c told =
    let a = g.D.Disk.meaning c.args.disk.now in
    let b = g.D.Disk.meaning c.reads_as.new.disk in
    let told_b : IsTrue b.tells = c.reads_as.ensures.time.told ∙ told in
    keeps_then_writes c.args.at c.args.bytes.now c.write_at.result a b (g.D.Disk.meaning c.write_at.new.self) told c.reads_as.ensures.time c.write_at.ensures.time (c.reads_as.ensures.keeps told) (c.write_at.ensures.writes told_b)

pub returns-clause-equal : goal.returns-clause-equal
returns-clause-equal g c told holds =
    let a = g.D.Disk.meaning c.args.disk.now in
    let same = (c.in_ok-reads_as.ensures.same told).1 (held_part a.content c.args.at _ c.args.bytes.now refl holds.room holds.bytes_are) in
    absurd (cc (same, c.if-branch.false))
