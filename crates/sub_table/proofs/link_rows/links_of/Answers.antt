use Rattle.std.proofs.Common.{not, nat_lt, nat_le, filter, sym, ap, subst, ◌∙◌}
use Rattle.std.specs.List.Sorted.{IsNonDecreasingBy}
use Rattle.std.proofs.lemmas.List.Kept.{IsNonDecreasingBy-filter}
use Rattle.sub_table.specs.Ends.{id_at}
use Rattle.sub_table.proofs.LinkRowLemmas.{here_is}
use Rattle.sub_table.proofs.link_rows.links_of.Goals as goal

pub split_below-requires : goal.split_below-requires
split_below-requires c =
    subst (IsNonDecreasingBy (id_at c.args.end)) (sym c.split_above.ensures.others)
    (IsNonDecreasingBy-filter (id_at c.args.end) (λ l. nat_le (id_at c.args.end l) c.args.id.0) c.args.links.now c.requires)

pub returns : goal.returns
returns c =
    c.split_below.ensures.others
    ∙ ap (filter (λ l. not (nat_lt (id_at c.args.end l) c.args.id.0))) c.split_above.ensures.others
    ∙ here_is (id_at c.args.end) c.args.id.0 c.args.links.now
