use Rattle.std.proofs.Common.{◌≡◌, true, not, ◌==◌, ◌||◌}
use Rattle.std.specs.List.{list_any}
use Rattle.std.proofs.lemmas.List.Kept.{AllPairs-filter}
use Rattle.sub_table.specs.Link.{Link}
use Rattle.sub_table.specs.Links.{is_before, is_same_link}
use Rattle.sub_table.proofs.LawLemmas.{order_with}
use Rattle.sub_table.proofs.laws.changes_keep_the_order.Goals as goal

pub returns-clause-more : goal.returns-clause-more
returns-clause-more c = order_with

pub returns-clause-less : goal.returns-clause-less
returns-clause-less c = λ l links up. AllPairs-filter (λ (k m : Link). is_before k m ≡ true) (λ k. not (is_same_link k l)) links up

pub returns-clause-less_at : goal.returns-clause-less_at
returns-clause-less_at c = λ ids links up. AllPairs-filter (λ (k m : Link). is_before k m ≡ true) (λ l. not (list_any (λ id. (l.from == id) || (l.to == id)) ids)) links up
