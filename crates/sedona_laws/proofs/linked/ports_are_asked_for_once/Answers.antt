use Rattle.std.proofs.Common.{arith}
use Rattle.sedona_laws.proofs.AnyWords.{no_other, of_any}
use Rattle.sedona_laws.proofs.Doing.{link_asked, link_rose}
use Rattle.sedona_laws.proofs.linked.ports_are_asked_for_once.Goals as goal

pub returns-clause-bound : goal.returns-clause-bound
returns-clause-bound g c = λ command old new status does. link_asked g.F.Files g.L.Link g.C.Clock g.D.Disk g.O.Sink command old new status does

pub returns-clause-link_fault : goal.returns-clause-link_fault
returns-clause-link_fault g c = λ words old new status answers ten. of_any g.F.Files g.L.Link g.C.Clock g.D.Disk g.O.Sink words old new status answers _ (λ command does. link_rose g.F.Files g.L.Link g.C.Clock g.D.Disk g.O.Sink command old new status does ten) (λ none nothing. absurd (no_other words (g.O.Sink.text old.sink) (g.O.Sink.text new.sink) (g.O.Sink.faults old.sink) (g.O.Sink.faults new.sink) status 10 nothing.answered ten (λ e. omega (arith, e)) (λ e. omega (arith, e))))
