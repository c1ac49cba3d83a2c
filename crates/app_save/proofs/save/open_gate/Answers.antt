use Rattle.app_save.proofs.Stages.{opening_during, opening_done}
use Rattle.app_save.proofs.save.open_gate.Goals as goal

pub returns-clause-during : goal.returns-clause-during
returns-clause-during g c told = opening_during c.args.slot c.args.place.now.newest c.args.place.now.other c.requires.slots c.args.payload.now (c.requires.filled told).filled.fits (g.D.Disk.meaning c.args.disk.now) (g.D.Disk.meaning c.write_through.new.disk) c.write_through.result (c.requires.filled told) (c.write_through.ensures.lands told)

pub returns-clause-saved : goal.returns-clause-saved
returns-clause-saved g c told = opening_done c.args.slot c.args.place.now.newest c.args.place.now.other c.requires.slots c.args.payload.now (c.requires.filled told).filled.fits (g.D.Disk.meaning c.args.disk.now) (g.D.Disk.meaning c.write_through.new.disk) c.write_through.result (c.requires.filled told) (c.write_through.ensures.lands told)

pub returns-clause-touches : goal.returns-clause-touches
returns-clause-touches g c told = (c.write_through.ensures.lands told).during
