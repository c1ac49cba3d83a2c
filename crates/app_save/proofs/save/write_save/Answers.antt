use Rattle.std.proofs.Common.{◌∙◌, IsTrue}
use Rattle.app_save.proofs.Whole.{settled_moments, settled_pages, save_moments, save_pages, save_done}
use Rattle.app_save.proofs.SlotWritten.{settled_touches, settled_closes, save_touches, save_closes, save_writes, save_renews}
use Rattle.app_save.proofs.save.write_save.Goals as goal

pub returns-in_err-place-clause-moments : goal.returns-in_err-place-clause-moments
returns-in_err-place-clause-moments g c told =
    settled_moments c.settle.result c.args.slot c.args.payload.now (g.D.Disk.meaning c.args.disk.now) (g.D.Disk.meaning c.settle.new.disk) (c.requires.stores told) (c.settle.ensures.settled told)

pub returns-in_err-place-clause-pages : goal.returns-in_err-place-clause-pages
returns-in_err-place-clause-pages g c told told_syncs =
    settled_pages c.settle.result c.args.slot c.args.payload.now (g.D.Disk.meaning c.args.disk.now) (g.D.Disk.meaning c.settle.new.disk) told_syncs (c.settle.ensures.settled told)

pub returns-clause-moments : goal.returns-clause-moments
returns-clause-moments g c told =
    let a = g.D.Disk.meaning c.args.disk.now in
    let b = g.D.Disk.meaning c.settle.new.disk in
    let told_b : IsTrue b.tells = c.settle.ensures.time.told ∙ told in
    let place = c.in_ok-place.place in
    save_moments c.args.slot place.newest place.other c.requires.small c.in_ok-place.ensures.slots c.args.payload.now a b (g.D.Disk.meaning c.write_slot.new.disk) told (c.requires.stores told) (g.met.D.Disk.is_disk c.args.disk.now told)
    (c.in_ok-place.ensures.settled told).kept (c.in_ok-place.ensures.place told).newest c.settle.ensures.time c.write_slot.ensures.time (c.write_slot.ensures.during told_b) (c.settle.ensures.settled told).during

pub returns-clause-pages : goal.returns-clause-pages
returns-clause-pages g c told told_syncs =
    let a = g.D.Disk.meaning c.args.disk.now in
    let b = g.D.Disk.meaning c.settle.new.disk in
    let told_b : IsTrue b.tells = c.settle.ensures.time.told ∙ told in
    let place = c.in_ok-place.place in
    save_pages c.args.slot place.newest place.other c.requires.small c.in_ok-place.ensures.slots c.args.payload.now a b (g.D.Disk.meaning c.write_slot.new.disk) told (c.requires.stores told) (g.met.D.Disk.is_disk c.args.disk.now told)
    (c.in_ok-place.ensures.settled told).kept (c.in_ok-place.ensures.place told).newest c.settle.ensures.time c.write_slot.ensures.time (c.write_slot.ensures.during told_b) told_syncs
    (settled_pages c.settle.result c.args.slot c.args.payload.now a b told_syncs (c.settle.ensures.settled told))

pub returns-clause-saved : goal.returns-clause-saved
returns-clause-saved g c told =
    let a = g.D.Disk.meaning c.args.disk.now in
    let b = g.D.Disk.meaning c.settle.new.disk in
    let told_b : IsTrue b.tells = c.settle.ensures.time.told ∙ told in
    let place = c.in_ok-place.place in
    save_done c.args.slot place.newest place.other c.requires.small c.in_ok-place.ensures.slots c.args.payload.now a b (g.D.Disk.meaning c.write_slot.new.disk) told (c.requires.stores told) (g.met.D.Disk.is_disk c.args.disk.now told)
    (c.in_ok-place.ensures.settled told).kept (c.in_ok-place.ensures.place told).newest c.settle.ensures.time c.write_slot.ensures.time (c.write_slot.ensures.during told_b) c.write_slot.result (c.write_slot.ensures.saved told_b)

pub returns-in_err-place-clause-touches : goal.returns-in_err-place-clause-touches
returns-in_err-place-clause-touches g c told told_syncs =
    settled_touches c.settle.result c.args.slot c.args.payload.now (g.D.Disk.meaning c.args.disk.now) (g.D.Disk.meaning c.settle.new.disk) told_syncs (c.settle.ensures.settled told)

pub returns-clause-touches : goal.returns-clause-touches
returns-clause-touches g c told told_syncs =
    let a = g.D.Disk.meaning c.args.disk.now in
    let b = g.D.Disk.meaning c.settle.new.disk in
    let told_b : IsTrue b.tells = c.settle.ensures.time.told ∙ told in
    let place = c.in_ok-place.place in
    let settled = c.in_ok-place.ensures.settled told in
    save_touches c.args.slot place.newest place.other c.in_ok-place.ensures.slots c.args.payload.now c.requires.fits a b (g.D.Disk.meaning c.write_slot.new.disk) told (c.requires.stores told) (g.met.D.Disk.is_disk c.args.disk.now told)
    settled.kept settled.rests (c.in_ok-place.ensures.place told).newest c.settle.ensures.time c.write_slot.ensures.time (c.write_slot.ensures.touches told_b) told_syncs
    (settled_touches c.settle.result c.args.slot c.args.payload.now a b told_syncs (c.settle.ensures.settled told))

pub returns-in_err-place-clause-closes : goal.returns-in_err-place-clause-closes
returns-in_err-place-clause-closes g c told =
    settled_closes c.settle.result c.args.slot c.args.payload.now (g.D.Disk.meaning c.args.disk.now) (g.D.Disk.meaning c.settle.new.disk) c.settle.ensures.time (c.settle.ensures.settled told)

pub returns-clause-closes : goal.returns-clause-closes
returns-clause-closes g c told =
    let a = g.D.Disk.meaning c.args.disk.now in
    let b = g.D.Disk.meaning c.settle.new.disk in
    let told_b : IsTrue b.tells = c.settle.ensures.time.told ∙ told in
    let place = c.in_ok-place.place in
    let settled = c.in_ok-place.ensures.settled told in
    save_closes c.args.slot place.newest place.other c.in_ok-place.ensures.slots c.args.payload.now c.requires.fits a b (g.D.Disk.meaning c.write_slot.new.disk) told (c.requires.stores told) (g.met.D.Disk.is_disk c.args.disk.now told)
    settled.kept settled.rests (c.in_ok-place.ensures.place told).newest c.settle.ensures.time c.write_slot.ensures.time (c.write_slot.ensures.touches told_b)
    settled.during place.generation (c.in_ok-place.ensures.place told).next (c.write_slot.ensures.closes told_b)

pub returns-clause-writes : goal.returns-clause-writes
returns-clause-writes g c told =
    let a = g.D.Disk.meaning c.args.disk.now in
    let b = g.D.Disk.meaning c.settle.new.disk in
    let d = g.D.Disk.meaning c.write_slot.new.disk in
    let told_b : IsTrue b.tells = c.settle.ensures.time.told ∙ told in
    let told_d : IsTrue d.tells = c.write_slot.ensures.time.told ∙ told_b in
    let place = c.in_ok-place.place in
    let settled = c.in_ok-place.ensures.settled told in
    save_writes c.args.slot place.newest place.other c.in_ok-place.ensures.slots c.args.payload.now c.requires.fits a b d told (c.requires.stores told) (g.met.D.Disk.is_disk c.args.disk.now told)
    settled.kept settled.rests (c.in_ok-place.ensures.place told).newest c.settle.ensures.time c.write_slot.ensures.time (c.write_slot.ensures.touches told_b)
    place.generation (c.in_ok-place.ensures.place told).next (g.met.D.Disk.is_disk c.write_slot.new.disk told_d) c.write_slot.result (c.write_slot.ensures.saved told_b) (c.write_slot.ensures.holds told_b)

pub returns-clause-renews : goal.returns-clause-renews
returns-clause-renews g c told =
    let a = g.D.Disk.meaning c.args.disk.now in
    let b = g.D.Disk.meaning c.settle.new.disk in
    let d = g.D.Disk.meaning c.write_slot.new.disk in
    let told_b : IsTrue b.tells = c.settle.ensures.time.told ∙ told in
    let told_d : IsTrue d.tells = c.write_slot.ensures.time.told ∙ told_b in
    let place = c.in_ok-place.place in
    let settled = c.in_ok-place.ensures.settled told in
    save_renews c.args.slot place.newest place.other c.in_ok-place.ensures.slots c.args.payload.now c.requires.fits a b d told (c.requires.stores told) (g.met.D.Disk.is_disk c.args.disk.now told)
    settled.kept settled.rests (c.in_ok-place.ensures.place told).newest c.settle.ensures.time c.write_slot.ensures.time (c.write_slot.ensures.touches told_b)
    place.generation (c.in_ok-place.ensures.place told).next (g.met.D.Disk.is_disk c.write_slot.new.disk told_d) c.write_slot.result (c.write_slot.ensures.saved told_b) (c.write_slot.ensures.holds told_b)
