use Rattle.kit_sources.proofs.One.{kits_failed, source_failed}
use Rattle.kit_sources.proofs.laws.failed_reads_are_told.Goals as goal

pub returns-clause-kits : goal.returns-clause-kits
returns-clause-kits c = λ names reads end is. kits_failed names reads end is

pub returns-clause-source : goal.returns-clause-source
returns-clause-source c = λ name reads end is. source_failed name reads end is
