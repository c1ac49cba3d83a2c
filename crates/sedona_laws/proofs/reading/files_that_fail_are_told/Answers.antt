use Rattle.std.proofs.Common.{ap}
use Rattle.sedona_laws.proofs.AnyWords.{of_any}
use Rattle.sedona_laws.proofs.Doing.{read_fault, write_fault}
use Rattle.sedona_laws.proofs.reading.files_that_fail_are_told.Goals as goal

pub returns-clause-file_fault_comes : goal.returns-clause-file_fault_comes
returns-clause-file_fault_comes g c = λ words old new status answers name moved. of_any g.F.Files g.L.Link g.C.Clock g.D.Disk g.O.Sink words old new status answers _ (λ command does. read_fault g.F.Files g.L.Link g.C.Clock g.D.Disk g.O.Sink command old new status does (c.failed_reads_end_it.ensures command) name moved) (λ none nothing. absurd (moved (ap (λ files. g.F.Files.failed_reads files name) nothing.files)))

pub returns-clause-write_fault_comes : goal.returns-clause-write_fault_comes
returns-clause-write_fault_comes g c = λ words old new status answers name moved. of_any g.F.Files g.L.Link g.C.Clock g.D.Disk g.O.Sink words old new status answers _ (λ command does. write_fault g.F.Files g.L.Link g.C.Clock g.D.Disk g.O.Sink command old new status does (c.failed_reads_end_it.ensures command) name moved) (λ none nothing. absurd (moved (ap (λ files. g.F.Files.failed_writes files name) nothing.files)))
