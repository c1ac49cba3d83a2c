use Rattle.std.proofs.Common.{rules}
use Rattle.std.proofs.lemmas.List.Sorted.{IsPartitionPoint-from_clause}
use Rattle.sub_table.specs.LinkRows.{comes_first}
use Rattle.sub_table.proofs.FilterLemmas.{take_is, drop_is}
use Rattle.sub_table.proofs.OrderLemmas.{by_source, parted}
use Rattle.sub_table.proofs.link_rows.place_by_source.Goals as goal

pub returns-clause-before : goal.returns-clause-before
returns-clause-before c =
    let point = IsPartitionPoint-from_clause (λ k. comes_first k c.args.l.now) _ _ c.partition_point.ensures.partitioned (parted comes_first by_source c.args.l.now c.args.links.now c.requires) (λ a r q k. search rules) in
    take_is (λ k. comes_first k c.args.l.now) c.args.links.now c.partition_point.result c.partition_point.ensures.bound point.0 point.1

pub returns-clause-after : goal.returns-clause-after
returns-clause-after c =
    let point = IsPartitionPoint-from_clause (λ k. comes_first k c.args.l.now) _ _ c.partition_point.ensures.partitioned (parted comes_first by_source c.args.l.now c.args.links.now c.requires) (λ a r q k. search rules) in
    drop_is (λ k. comes_first k c.args.l.now) c.args.links.now c.partition_point.result c.partition_point.ensures.bound point.0 point.1
