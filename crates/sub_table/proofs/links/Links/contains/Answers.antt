use Rattle.std.proofs.Common.{ℕ, ◌==◌, Bool, true, filter, sym, ap, subst, ◌∙◌}
use Rattle.std.specs.List.{list_any}
use Rattle.std.specs.List.Sorted.{IsNonDecreasingBy}
use Rattle.std.proofs.lemmas.Map.Views.{any-filter_same}
use Rattle.sub_table.specs.Link.{Link}
use Rattle.sub_table.specs.Links.{is_same_link}
use Rattle.sub_table.proofs.OrderLemmas.{to_same}
use Rattle.sub_table.proofs.LinkRowLemmas.{targets_rise}
use Rattle.sub_table.proofs.links.Links.contains.Goals as goal

pub links_of-requires : goal.links_of-requires
links_of-requires c = subst (IsNonDecreasingBy (λ (l : Link). l.to)) (sym c.deref.ensures.value) (targets_rise c.self.inside.by_target.items c.self.invariant.targets)

pub returns : goal.returns
returns c =
    let into : ℕ → Link → Bool = λ id l. l.to == id in
    c.has_link.ensures
    ∙ ap (list_any (is_same_link c.args.link)) (c.links_of.ensures ∙ ap (λ id. filter (into id) c.deref.result.now) c.id_at-to.ensures ∙ ap (filter (into c.args.link.to)) c.deref.ensures.value)
    ∙ any-filter_same (is_same_link c.args.link) (into c.args.link.to) true (to_same c.args.link) c.self.inside.by_target.items
    ∙ ap (list_any (is_same_link c.args.link)) c.self.view_is
