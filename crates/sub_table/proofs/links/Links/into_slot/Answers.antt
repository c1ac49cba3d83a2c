use Rattle.std.proofs.Common.{◌==◌, Bool, filter, is_some, refl, sym, ap, subst, ◌∙◌}
use Rattle.std.specs.Prelude.{find}
use Rattle.std.specs.List.{list_any}
use Rattle.std.specs.List.Sorted.{IsNonDecreasingBy}
use Rattle.sub_table.specs.Link.{Link}
use Rattle.sub_table.specs.Links.{has_target}
use Rattle.sub_table.proofs.FilterLemmas.{find_in, some_find}
use Rattle.sub_table.proofs.LinkRowLemmas.{targets_rise}
use Rattle.sub_table.proofs.links.Links.into_slot.Goals as goal

pub links_of-requires : goal.links_of-requires
links_of-requires c = subst (IsNonDecreasingBy (λ (l : Link). l.to)) (sym c.deref.ensures.value) (targets_rise c.self.inside.by_target.items c.self.invariant.targets)

pub returns-clause-link : goal.returns-clause-link
returns-clause-link c =
    let into : Link → Bool = λ l. l.to == c.args.id.0 in
    c.first_into.ensures
    ∙ ap (find (λ (l : Link). l.to_slot == c.args.slot)) (c.links_of.ensures ∙ ap (filter into) c.deref.ensures.value)
    ∙ find_in (λ (l : Link). l.to_slot == c.args.slot) into (has_target c.args.id.0 c.args.slot) (λ _. refl) c.self.inside.by_target.items
    ∙ ap (find (has_target c.args.id.0 c.args.slot)) c.self.view_is

pub returns-clause-there : goal.returns-clause-there
returns-clause-there c =
    let into : Link → Bool = λ l. l.to == c.args.id.0 in
    let found = c.first_into.ensures
    ∙ ap (find (λ (l : Link). l.to_slot == c.args.slot)) (c.links_of.ensures ∙ ap (filter into) c.deref.ensures.value)
    ∙ find_in (λ (l : Link). l.to_slot == c.args.slot) into (has_target c.args.id.0 c.args.slot) (λ _. refl) c.self.inside.by_target.items in
    ap is_some found ∙ some_find (has_target c.args.id.0 c.args.slot) c.self.inside.by_target.items
    ∙ ap (list_any (has_target c.args.id.0 c.args.slot)) c.self.view_is
