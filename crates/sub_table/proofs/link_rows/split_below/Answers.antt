use Rattle.std.proofs.Common.{nat_lt, rules, ◌∙◌}
use Rattle.std.proofs.lemmas.List.Sorted.{IsPartitionPoint-from_clause, IsPartitionedBy-ltb}
use Rattle.sub_table.specs.Ends.{id_at}
use Rattle.sub_table.proofs.FilterLemmas.{take_is, drop_is}
use Rattle.sub_table.proofs.link_rows.split_below.Goals as goal

pub returns-clause-below : goal.returns-clause-below
returns-clause-below c =
    let point = IsPartitionPoint-from_clause (λ l. nat_lt (id_at c.args.end l) c.args.id.0) _ _ c.partition_point-place.ensures.partitioned (IsPartitionedBy-ltb (id_at c.args.end) c.args.links.now c.args.id.0 c.requires) (λ a r q k. search rules) in
    c.split_at.ensures.front ∙ take_is (λ l. nat_lt (id_at c.args.end l) c.args.id.0) c.args.links.now c.partition_point-place.result c.partition_point-place.ensures.bound point.0 point.1

pub returns-clause-others : goal.returns-clause-others
returns-clause-others c =
    let point = IsPartitionPoint-from_clause (λ l. nat_lt (id_at c.args.end l) c.args.id.0) _ _ c.partition_point-place.ensures.partitioned (IsPartitionedBy-ltb (id_at c.args.end) c.args.links.now c.args.id.0 c.requires) (λ a r q k. search rules) in
    c.split_at.ensures.back ∙ drop_is (λ l. nat_lt (id_at c.args.end l) c.args.id.0) c.args.links.now c.partition_point-place.result c.partition_point-place.ensures.bound point.0 point.1
