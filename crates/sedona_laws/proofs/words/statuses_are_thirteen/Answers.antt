use Rattle.sedona_laws.proofs.AnyWords.{statuses}
use Rattle.sedona_laws.proofs.words.statuses_are_thirteen.Goals as goal

pub returns : goal.returns
returns g c = record { statuses = λ words old new status answers. statuses g.F.Files g.L.Link g.C.Clock g.D.Disk g.O.Sink words old new status answers }
