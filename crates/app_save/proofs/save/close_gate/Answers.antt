use Rattle.app_save.proofs.Stages.{closing_during, closing_done, closed_during, closed_already}
use Rattle.app_save.proofs.Closing.{zero_held}
use Rattle.app_save.proofs.Ranges.{during_none}
use Rattle.app_save.proofs.save.close_gate.Goals as goal

pub returns-then-place-clause-during : goal.returns-then-place-clause-during
returns-then-place-clause-during g c told =
    let ready = c.requires.ready told in
    closing_during c.args.slot c.args.place.now.newest c.args.place.now.other c.requires.slots c.args.payload.now c.requires.fits (g.D.Disk.meaning c.args.disk.now) (g.D.Disk.meaning c.write_through.new.disk)
    ready.rests ready.store ready.there.newest c.write_through.result (ready.there.is_open c.if-place.true) (c.write_through.ensures.lands told)

pub returns-then-place-clause-closed : goal.returns-then-place-clause-closed
returns-then-place-clause-closed g c told =
    let ready = c.requires.ready told in
    closing_done c.args.slot c.args.place.now.newest c.args.place.now.other c.requires.slots c.args.payload.now c.requires.fits (g.D.Disk.meaning c.args.disk.now) (g.D.Disk.meaning c.write_through.new.disk)
    ready.rests ready.store ready.there.newest c.write_through.result (ready.there.is_open c.if-place.true) (c.write_through.ensures.lands told)

pub returns-clause-during : goal.returns-clause-during
returns-clause-during g c told =
    let a = g.D.Disk.meaning c.args.disk.now in
    let ready = c.requires.ready told in
    closed_during c.args.slot c.args.place.now.newest c.args.place.now.other c.requires.slots c.args.payload.now c.requires.fits a a ready.rests ready.store ready.there.newest

pub returns-clause-closed : goal.returns-clause-closed
returns-clause-closed g c told =
    let a = g.D.Disk.meaning c.args.disk.now in
    let ready = c.requires.ready told in
    closed_already c.args.slot c.args.place.now.newest c.args.place.now.other c.requires.slots c.args.payload.now c.requires.fits a a ready.rests ready.store ready.there.newest (ready.there.is_shut c.if-place.false)

pub returns-then-place-clause-zero : goal.returns-then-place-clause-zero
returns-then-place-clause-zero g c told is_open = zero_held c.write_through.result c.args.place.now.other (g.D.Disk.meaning c.write_through.new.disk).content (c.write_through.ensures.lands told).holds

pub returns-clause-zero : goal.returns-clause-zero
returns-clause-zero g c told is_open = absurd ((c.requires.ready told).there.is_shut c.if-place.false is_open)

pub returns-then-place-clause-touches : goal.returns-then-place-clause-touches
returns-then-place-clause-touches g c told = (c.write_through.ensures.lands told).during

pub returns-clause-touches : goal.returns-clause-touches
returns-clause-touches g c told = during_none c.args.place.now.other 1 (g.D.Disk.meaning c.args.disk.now)
