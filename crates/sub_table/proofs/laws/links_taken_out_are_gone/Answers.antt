use Rattle.std.proofs.Common.{not, ◌==◌, ◌||◌}
use Rattle.std.specs.List.{list_any}
use Rattle.sub_table.specs.Link.{Link}
use Rattle.sub_table.specs.Links.{is_same_link}
use Rattle.sub_table.proofs.LawLemmas.{gone, gone_at, no_more}
use Rattle.sub_table.proofs.laws.links_taken_out_are_gone.Goals as goal

pub returns-clause-one : goal.returns-clause-one
returns-clause-one c = gone

pub returns-clause-at : goal.returns-clause-at
returns-clause-at c = gone_at

pub returns-clause-fewer : goal.returns-clause-fewer
returns-clause-fewer c = λ l links id. no_more (λ (k : Link). (k.from == id) || (k.to == id)) (λ k. not (is_same_link k l)) links

pub returns-clause-fewer_at : goal.returns-clause-fewer_at
returns-clause-fewer_at c = λ ids links id.
    no_more (λ (k : Link). (k.from == id) || (k.to == id)) (λ l. not (list_any (λ other. (l.from == other) || (l.to == other)) ids)) links
