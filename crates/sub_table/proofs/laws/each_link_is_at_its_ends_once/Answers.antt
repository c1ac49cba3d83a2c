use Rattle.std.proofs.Common.{◌≡◌, true, ◌==◌, ◌||◌}
use Rattle.std.proofs.lemmas.List.Kept.{AllPairs-filter}
use Rattle.sub_table.specs.Link.{Link}
use Rattle.sub_table.specs.Links.{is_before, links_at}
use Rattle.sub_table.proofs.LawLemmas.{one_place, stays}
use Rattle.sub_table.proofs.laws.each_link_is_at_its_ends_once.Goals as goal

pub returns-clause-there : goal.returns-clause-there
returns-clause-there c = λ l links id in_links at. stays (λ (k : Link). (k.from == id) || (k.to == id)) l links at in_links

pub returns-clause-once : goal.returns-clause-once
returns-clause-once c = λ l links id m n up at_m at_n.
    one_place (links_at id links) l m n (AllPairs-filter (λ (k p : Link). is_before k p ≡ true) (λ k. (k.from == id) || (k.to == id)) links up) at_m at_n
