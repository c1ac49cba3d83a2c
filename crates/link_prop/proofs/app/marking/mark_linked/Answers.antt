use Rattle.std.proofs.Common.{ℕ, Bool, sym, ◌∙◌, ap, subst, ◌<◌, ◌≤◌, take}
use Rattle.std.specs.Prelude.{◌||◌, ◌&&◌}
use Rattle.std.specs.List.{list_any}
use Rattle.std.proofs.lemmas.List.Folds.{list_any_more}
use Rattle.std.proofs.lemmas.Option.{get_or_from_slice_get}
use Rattle.sub_table.specs.Link.{Link}
use Rattle.sub_table.specs.Marks.{is_at_mark}
use Rattle.link_prop.specs.Marks.{has_mark, links_at_ends}
use Rattle.link_prop.proofs.LinkParts.{links_marked, or_more, take_all}
use Rattle.link_prop.proofs.app.marking.mark_linked.Goals as goal

pub loop-at-preserved : goal.loop-at-preserved
loop-at-preserved c = λ id place.
    let test : Link → Bool = λ k. is_at_mark c.args.leaving.now k && links_at_ends k id in
    let l = c.link_at.result in
    let links = c.args.links.now in
    let at = c.loop-at.at in
    c.mark_where_one_leaves.ensures id place
    ∙ ap (λ (b : Bool). test l || b) (c.loop-at.invariant id place)
    ∙ or_more (test l) (list_any test (take at links)) (has_mark c.args.marks.now id place)
    ∙ ap (λ (b : Bool). b || has_mark c.args.marks.now id place)
    (ap (λ (k : Link). list_any test (take at links) || test k) (sym (get_or_from_slice_get links at l l c.link_at.ensures))
    ∙ sym (list_any_more test links at l (subst (λ (n : ℕ). at < n) c.len-at-end.ensures.same c.loop-at-test.true)))

pub returns : goal.returns
returns c = λ gone are id place.
    let links = c.args.links.now in
    c.loop-at.invariant id place
    ∙ ap (λ (b : Bool). b || has_mark c.args.marks.now id place)
    (ap (list_any (λ (k : Link). is_at_mark c.args.leaving.now k && links_at_ends k id)) (take_all links c.loop-at.at (subst (λ (n : ℕ). n ≤ c.loop-at.at) c.len-at-end.ensures.same c.loop-at-test.false))
    ∙ links_marked c.args.leaving.now gone are links id)
