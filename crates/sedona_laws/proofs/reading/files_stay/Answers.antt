use Rattle.sedona_laws.proofs.Doing.{files_kept, writes_kept}
use Rattle.sedona_laws.proofs.reading.files_stay.Goals as goal

pub returns-clause-files : goal.returns-clause-files
returns-clause-files g c = λ command old new status does. files_kept g.F.Files g.L.Link g.C.Clock g.D.Disk g.O.Sink command old new status does

pub returns-clause-writes : goal.returns-clause-writes
returns-clause-writes g c = λ command old new status does. writes_kept g.F.Files g.L.Link g.C.Clock g.D.Disk g.O.Sink command old new status does
