use Rattle.sed_typed.proofs.Lineages.{lineage_of_base}
use Rattle.sed_typed.proofs.laws.lineages_go_by_bases.Goals as goal

pub returns : goal.returns
returns c = lineage_of_base
