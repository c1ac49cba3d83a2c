use Rattle.std.proofs.Common.{◌==◌, ◌||◌, not, ap, ◌∙◌}
use Rattle.std.specs.List.{list_any}
use Rattle.std.proofs.lemmas.List.Elements.{filter_agree}
use Rattle.sub_table.specs.Link.{Link}
use Rattle.sub_table.specs.Links.{without_links_at}
use Rattle.sub_table.specs.Marks.{is_at_mark}
use Rattle.sub_table.proofs.KeptLemmas.{kept_filter, marked_is}
use Rattle.sub_table.proofs.links.Links.remove_at.Goals as goal

pub invariant_of-self : goal.invariant_of-self
invariant_of-self c =
    rw (c.take_at_marks.ensures.items, c.take_at_marks-2.ensures.items)
    (kept_filter (λ (l : Link). not (is_at_mark c.args.marks.now l)) _ _ _ _ _ _ c.self.invariant c.take_at_marks.ensures.capacity c.take_at_marks-2.ensures.capacity)

pub returns : goal.returns
returns c = λ ids marked.
    c.take_at_marks.ensures.items
    ∙ filter_agree (λ (l : Link). not (is_at_mark c.args.marks.now l)) (λ (l : Link). not (list_any (λ id. (l.from == id) || (l.to == id)) ids)) (marked_is c.args.marks.now ids marked) c.self.inside.by_target.items
    ∙ ap (without_links_at ids) c.self.view_is
