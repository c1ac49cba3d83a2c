use Rattle.std.proofs.Common.{ℕ, List, Ok}
use Rattle.sed_check.specs.Loading.{KitsLoaded}
use Rattle.sedona_laws.proofs.LoadedOnce.{generates_tell}
use Rattle.sedona_laws.proofs.BootRun.{boots, ends_as_run, not_refused, of_kits}
use Rattle.sedona_laws.proofs.ImageRead.{ImageLaws}
use Rattle.sedona_laws.proofs.booting.images_boot_as_their_kits_run.Goals as goal

pub returns-clause-booted : goal.returns-clause-booted
returns-clause-booted g c = λ out names asked made now old new ended status compiled left same is does at.
    let laws : ImageLaws = record { read_back = c.images_are_read_as_their_programs.ensures; apart = c.bytes_are_an_image_or_fault.ensures.never_both; first = c.first_broken_is_least.ensures } in
    of_kits g.F.Files out names made.files now.files old.files _ (compiled.leaves left) same (λ kit_reads program made_of held.
    boots g.F.Files g.L.Link g.C.Clock g.D.Disk g.O.Sink laws out names kit_reads program made_of asked is old new status held
    (c.runs_are_of_the_link_and_the_clock.ensures.ran asked old new status does at))

pub returns-clause-not_refused : goal.returns-clause-not_refused
returns-clause-not_refused g c = λ out names asked made now old new ended status compiled left same is does six.
    let laws : ImageLaws = record { read_back = c.images_are_read_as_their_programs.ensures; apart = c.bytes_are_an_image_or_fault.ensures.never_both; first = c.first_broken_is_least.ensures } in
    (of_kits g.F.Files out names made.files now.files old.files (λ kit_reads program. ⊥) (compiled.leaves left) same (λ kit_reads program made_of held.
    not_refused g.F.Files g.L.Link g.C.Clock g.D.Disk g.O.Sink laws out names kit_reads program made_of asked is old new status held does six)).1.holds.2

pub returns-clause-as_run : goal.returns-clause-as_run
returns-clause-as_run g c = λ out names asked made now old new ended status compiled left same is does.
    let laws : ImageLaws = record { read_back = c.images_are_read_as_their_programs.ensures; apart = c.bytes_are_an_image_or_fault.ensures.never_both; first = c.first_broken_is_least.ensures } in
    of_kits g.F.Files out names made.files now.files old.files _ (compiled.leaves left) same (λ kit_reads program made_of held given.
    ends_as_run g.F.Files g.L.Link g.C.Clock g.D.Disk g.O.Sink laws out names kit_reads program made_of asked is old new status held
    (generates_tell (KitsLoaded names) (c.failed_loads_are_told.ensures.kits names) kit_reads (Ok program) made_of) given does)
