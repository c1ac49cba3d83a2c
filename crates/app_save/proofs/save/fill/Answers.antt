use Rattle.std.proofs.Common.{◌∙◌, ◌+◌, length, IsTrue, arith}
use Rattle.app_save.proofs.Stages.{filling_during, filling_done}
use Rattle.app_save.proofs.Ranges.{during_wider, then_range}
use Rattle.app_save.proofs.SlotWritten.{filled_done}
use Rattle.app_save.proofs.save.fill.Goals as goal

pub returns-clause-during : goal.returns-clause-during
returns-clause-during g c told =
    let a = g.D.Disk.meaning c.args.disk.now in
    let b = g.D.Disk.meaning c.write_pages.new.disk in
    let told_b : IsTrue b.tells = c.write_pages.ensures.time.told ∙ told in
    filling_during c.args.slot c.args.place.now.newest c.args.place.now.other c.requires.slots c.args.payload.now c.requires.fits a b (g.D.Disk.meaning c.write_through.new.disk) c.behind_gate-header.result c.behind_gate-header.ensures.five c.write_through.result
    told c.write_pages.ensures.time c.write_through.ensures.time (c.write_pages.ensures.during told) (c.write_through.ensures.lands told_b)

pub returns-clause-filled : goal.returns-clause-filled
returns-clause-filled g c told =
    let a = g.D.Disk.meaning c.args.disk.now in
    let b = g.D.Disk.meaning c.write_pages.new.disk in
    let told_b : IsTrue b.tells = c.write_pages.ensures.time.told ∙ told in
    filling_done c.args.slot c.args.place.now.newest c.args.place.now.other c.requires.slots c.args.payload.now c.requires.fits a b (g.D.Disk.meaning c.write_through.new.disk) c.behind_gate-header.result c.behind_gate-header.ensures.five c.write_through.result
    told c.write_pages.ensures.time c.write_through.ensures.time (c.write_pages.ensures.during told) (c.write_through.ensures.lands told_b)
    (c.write_pages.ensures.closed told) (c.in_ok-write_pages.ensures.written told) c.behind_gate-header.ensures.len (c.behind_gate-header.ensures.generation ∙ c.requires.next told)

pub returns-in_err-write_pages-clause-touches : goal.returns-in_err-write_pages-clause-touches
returns-in_err-write_pages-clause-touches g c told =
    during_wider (c.args.place.now.other + 6) (length c.args.payload.now) (c.args.place.now.other + 1) (5 + length c.args.payload.now) (g.D.Disk.meaning c.args.disk.now) (g.D.Disk.meaning c.write_pages.new.disk) (omega arith) (omega arith) (c.write_pages.ensures.touches told)

pub returns-clause-touches : goal.returns-clause-touches
returns-clause-touches g c told =
    let a = g.D.Disk.meaning c.args.disk.now in
    let b = g.D.Disk.meaning c.write_pages.new.disk in
    let d = g.D.Disk.meaning c.write_through.new.disk in
    let told_b : IsTrue b.tells = c.write_pages.ensures.time.told ∙ told in
    let five = c.behind_gate-header.ensures.five in
    then_range (c.args.place.now.other + 1) (5 + length c.args.payload.now) a b d told c.write_pages.ensures.time c.write_through.ensures.time
    (during_wider (c.args.place.now.other + 6) (length c.args.payload.now) (c.args.place.now.other + 1) (5 + length c.args.payload.now) a b (omega arith) (omega arith) (c.write_pages.ensures.touches told))
    (during_wider (c.args.place.now.other + 1) (length c.behind_gate-header.result) (c.args.place.now.other + 1) (5 + length c.args.payload.now) b d (omega arith) (omega (arith, five)) (c.write_through.ensures.lands told_b).during)

pub returns-clause-holds : goal.returns-clause-holds
returns-clause-holds g c told =
    let a = g.D.Disk.meaning c.args.disk.now in
    let b = g.D.Disk.meaning c.write_pages.new.disk in
    let told_b : IsTrue b.tells = c.write_pages.ensures.time.told ∙ told in
    let lands = c.write_through.ensures.lands told_b in
    filled_done c.write_through.result c.args.slot c.args.place.now.newest c.args.place.now.other c.requires.slots c.args.place.now.generation c.args.payload.now c.requires.fits c.behind_gate-header.result b.content (g.D.Disk.meaning c.write_through.new.disk).content
    c.behind_gate-header.ensures.bytes (c.write_pages.ensures.closed told).stays.stands.size (c.in_ok-write_pages.ensures.written told) lands.torn lands.holds
