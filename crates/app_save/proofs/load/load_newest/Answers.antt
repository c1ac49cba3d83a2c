use Rattle.std.proofs.Common.{◌∙◌, sym, ap, length, IsTrue}
use Rattle.app_save.proofs.Opened.{place_opens, place_inside, all_opened}
use Rattle.app_save.proofs.load.load_newest.Goals as goal

pub read_front-requires-clause-inside : goal.read_front-requires-clause-inside
read_front-requires-clause-inside g c told_b =
    let a = g.D.Disk.meaning c.args.disk.now in
    let b = g.D.Disk.meaning c.settle.new.disk in
    let told : IsTrue a.tells = sym c.settle.ensures.time.told ∙ told_b in
    let same = (c.in_ok-place.ensures.settled told).kept in
    let store = c.requires.stores told a.content (g.met.D.Disk.is_disk c.args.disk.now told) in
    place_inside c.args.slot b.content c.in_ok-place.place c.min-len.result c.in_ok-place.ensures.slots (ap length same ∙ store.size) c.min-len.ensures

pub returns-clause-opens : goal.returns-clause-opens
returns-clause-opens g c told =
    let a = g.D.Disk.meaning c.args.disk.now in
    let b = g.D.Disk.meaning c.settle.new.disk in
    let told_b : IsTrue b.tells = c.settle.ensures.time.told ∙ told in
    let store = c.requires.stores told a.content (g.met.D.Disk.is_disk c.args.disk.now told) in
    place_opens c.args.slot a.content b.content c.in_ok-place.place c.min-len.result _ c.in_ok-place.ensures.slots store (c.in_ok-place.ensures.place told) c.min-len.ensures (c.in_ok-place.ensures.settled told).kept (c.in_ok-read_front.ensures.bytes told_b)

pub returns-clause-opened : goal.returns-clause-opened
returns-clause-opened g c told =
    let a = g.D.Disk.meaning c.args.disk.now in
    let b = g.D.Disk.meaning c.settle.new.disk in
    let told_b : IsTrue b.tells = c.settle.ensures.time.told ∙ told in
    let settled = c.in_ok-place.ensures.settled told in
    let store = c.requires.stores told a.content (g.met.D.Disk.is_disk c.args.disk.now told) in
    let opens = place_opens c.args.slot a.content b.content c.in_ok-place.place c.min-len.result _ c.in_ok-place.ensures.slots store (c.in_ok-place.ensures.place told) c.min-len.ensures settled.kept (c.in_ok-read_front.ensures.bytes told_b) in
    all_opened c.args.slot _ a.content b (g.D.Disk.meaning c.read_front.new.disk) opens settled.kept settled.rests c.read_front.ensures.time (c.read_front.ensures.keeps told_b)
