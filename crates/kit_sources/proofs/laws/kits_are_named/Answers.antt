use Rattle.kit_sources.proofs.Names.{are_read, kits_once, kits_formed}
use Rattle.kit_sources.proofs.laws.kits_are_named.Goals as goal

pub returns-clause-names : goal.returns-clause-names
returns-clause-names c = λ names reads sources is. kits_formed names sources (are_read names reads sources is)

pub returns-clause-once : goal.returns-clause-once
returns-clause-once c = λ names reads sources is name. kits_once names sources (are_read names reads sources is) name
