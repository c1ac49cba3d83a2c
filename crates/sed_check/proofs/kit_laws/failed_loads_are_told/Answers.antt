use Rattle.std.proofs.Common.{true, false}
use Rattle.sed_units.specs.declared.classes.Unit.{Unit as TheUnit}
use Rattle.kit_sources.specs.declared.sources.Sources.{Sources}
use Rattle.kit_sources.specs.Sources.{KitsRead, SourceRead}
use Rattle.sed_check.specs.Loading.{KitsLoaded, TextLoaded, local}
use Rattle.sed_check.proofs.Loads.{load_failed}
use Rattle.sed_check.proofs.kit_laws.failed_loads_are_told.Goals as goal

pub returns-clause-kits : goal.returns-clause-kits
unfolding KitsLoaded
returns-clause-kits c = λ names reads end is.
    load_failed (KitsRead names) (λ (s : Sources). s) false (λ rs e h. c.failed_reads_are_told.ensures.kits names rs e h) reads end is

pub returns-clause-text : goal.returns-clause-text
unfolding TextLoaded
returns-clause-text c = λ name reads end is.
    load_failed (SourceRead name) (λ (u : TheUnit). local name u) true (λ rs e h. c.failed_reads_are_told.ensures.source name rs e h) reads end is
