use Rattle.std.proofs.Common.{arith}
use Rattle.sedona_laws.proofs.StoresOpen.{spares_same}
use Rattle.sedona_laws.proofs.AnyWords.{no_other, of_any}
use Rattle.sedona_laws.proofs.Doing.{disk_rose, disk_spared, not_empty, store_asked}
use Rattle.sedona_laws.proofs.storing.stores_are_attached_once.Goals as goal

pub returns-clause-attached : goal.returns-clause-attached
returns-clause-attached g c = λ command old new status does. store_asked g.F.Files g.L.Link g.C.Clock g.D.Disk g.O.Sink command old new status does

pub returns-clause-device_fault : goal.returns-clause-device_fault
returns-clause-device_fault g c = λ words old new status answers four. of_any g.F.Files g.L.Link g.C.Clock g.D.Disk g.O.Sink words old new status answers _ (λ command does. disk_rose g.F.Files g.L.Link g.C.Clock g.D.Disk g.O.Sink command old new status does four) (λ none nothing. absurd (no_other words (g.O.Sink.text old.sink) (g.O.Sink.text new.sink) (g.O.Sink.faults old.sink) (g.O.Sink.faults new.sink) status 4 nothing.answered four (λ e. omega (arith, e)) (λ e. omega (arith, e))))

pub returns-clause-exists : goal.returns-clause-exists
returns-clause-exists g c = λ names store slot old new status does five told. not_empty g.F.Files g.L.Link g.C.Clock g.D.Disk g.O.Sink names store slot old new status does five told

pub returns-clause-spared : goal.returns-clause-spared
returns-clause-spared g c = λ words old new status answers which. of_any g.F.Files g.L.Link g.C.Clock g.D.Disk g.O.Sink words old new status answers _ (λ command does. disk_spared g.F.Files g.L.Link g.C.Clock g.D.Disk g.O.Sink command old new status does which) (λ none nothing. spares_same g.D.Disk old.disk new.disk nothing.disk)
