use Rattle.std.proofs.Common.{◌==◌, not, nat_lt, nat_le, ◌++◌, filter, sym, ap, subst, ◌∙◌}
use Rattle.std.specs.List.Sorted.{IsNonDecreasingBy}
use Rattle.std.proofs.lemmas.List.Kept.{IsNonDecreasingBy-filter}
use Rattle.sub_table.specs.Link.{Link}
use Rattle.sub_table.specs.LinkRows.{is_from}
use Rattle.sub_table.proofs.LinkRowLemmas.{at_is, sources_rise, targets_rise}
use Rattle.sub_table.proofs.link_rows.links_at.Goals as goal

pub links_of-from-requires : goal.links_of-from-requires
links_of-from-requires c = sources_rise c.args.by_source.now c.requires.sources

pub split_below-requires : goal.split_below-requires
split_below-requires c =
    subst (IsNonDecreasingBy (λ (l : Link). l.to)) (sym (c.links_of-from.ensures ∙ c.requires.same))
    (IsNonDecreasingBy-filter (λ (l : Link). l.to) (is_from c.args.id.0) c.args.by_target.now (targets_rise c.args.by_target.now c.requires.targets))

pub split_above-requires : goal.split_above-requires
split_above-requires c =
    subst (IsNonDecreasingBy (λ (l : Link). l.to)) (sym (c.links_of-from.ensures ∙ c.requires.same))
    (IsNonDecreasingBy-filter (λ (l : Link). l.to) (is_from c.args.id.0) c.args.by_target.now (targets_rise c.args.by_target.now c.requires.targets))

pub links_of-requires : goal.links_of-requires
links_of-requires c = targets_rise c.args.by_target.now c.requires.targets

pub returns : goal.returns
returns c =
    let from = c.links_of-from.ensures ∙ c.requires.same in
    let below = c.split_below.ensures.below ∙ ap (filter (λ (l : Link). nat_lt l.to c.args.id.0)) from in
    let above = c.split_above.ensures.above ∙ ap (filter (λ (l : Link). not (nat_le l.to c.args.id.0))) from in
    ap (λ ks. ks ++ (c.links_of.result.now ++ c.split_above.result.1.now)) below
    ∙ ap (λ ks. filter (λ (l : Link). nat_lt l.to c.args.id.0) (filter (is_from c.args.id.0) c.args.by_target.now) ++ (ks ++ c.split_above.result.1.now)) c.links_of.ensures
    ∙ ap (λ ks. filter (λ (l : Link). nat_lt l.to c.args.id.0) (filter (is_from c.args.id.0) c.args.by_target.now) ++ (filter (λ (l : Link). l.to == c.args.id.0) c.args.by_target.now ++ ks)) above
    ∙ at_is c.args.id.0 c.args.by_target.now c.requires.targets
