use Rattle.std.proofs.Common.{rules, ◌∙◌, IsTrue}
use Rattle.app_save.proofs.Moments.{lands_after}
use Rattle.app_save.proofs.save.write_through.Goals as goal

pub returns-in_err-write_at-clause-lands : goal.returns-in_err-write_at-clause-lands
returns-in_err-write_at-clause-lands g c told = record { during = (c.write_at.ensures.writes told).during; torn = search rules; holds = search rules; rests = search rules }

pub returns-clause-lands : goal.returns-clause-lands
returns-clause-lands g c told =
    let a = g.D.Disk.meaning c.args.disk.now in
    let b = g.D.Disk.meaning c.write_at.new.self in
    let told_b : IsTrue b.tells = c.write_at.ensures.time.told ∙ told in
    lands_after c.args.at c.args.bytes.now _ c.sync.result a b (g.D.Disk.meaning c.sync.new.self) told c.write_at.ensures.time c.sync.ensures.time (c.in_ok-write_at.ensures.writes told) (c.sync.ensures.durable told_b)
