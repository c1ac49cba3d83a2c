use Rattle.std.proofs.Common.{sym, subst}
use Rattle.std.specs.List.Sorted.{IsNonDecreasingBy}
use Rattle.sub_table.specs.Link.{Link}
use Rattle.sub_table.proofs.LinkRowLemmas.{targets_rise}
use Rattle.sub_table.proofs.links.Links.into_component.Goals as goal

pub links_of-requires : goal.links_of-requires
links_of-requires c = subst (IsNonDecreasingBy (λ (l : Link). l.to)) (sym c.deref.ensures.value) (targets_rise c.self.inside.by_target.items c.self.invariant.targets)
