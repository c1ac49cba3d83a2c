use Rattle.std.proofs.Common.{◌==◌, ◌||◌}
use Rattle.sub_table.specs.Link.{Link}
use Rattle.sub_table.proofs.LawLemmas.{counted, joined}
use Rattle.sub_table.proofs.laws.a_new_link_joins_the_others.Goals as goal

pub returns-clause-all : goal.returns-clause-all
returns-clause-all c = joined

pub returns-clause-count : goal.returns-clause-count
returns-clause-count c = λ l links id. counted (λ (k : Link). (k.from == id) || (k.to == id)) l links
