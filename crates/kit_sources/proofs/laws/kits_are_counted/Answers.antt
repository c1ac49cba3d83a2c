use Rattle.kit_sources.proofs.Names.{are_read, kits_many, files_many}
use Rattle.kit_sources.proofs.laws.kits_are_counted.Goals as goal

pub returns-clause-kits : goal.returns-clause-kits
returns-clause-kits c = λ names reads sources is. kits_many names sources (are_read names reads sources is)

pub returns-clause-files : goal.returns-clause-files
returns-clause-files c = λ names reads sources is. files_many names sources (are_read names reads sources is)
