use Rattle.std.proofs.Common.{not, sym, ap, ◌∙◌}
use Rattle.std.specs.List.{list_any}
use Rattle.sub_table.specs.Link.{Link}
use Rattle.sub_table.specs.Links.{is_same_link}
use Rattle.sub_table.proofs.OrderLemmas.{without_none}
use Rattle.sub_table.proofs.KeptLemmas.{kept_filter, there_too}
use Rattle.sub_table.proofs.links.Links.remove.Goals as goal

pub returns-then-not-there-clause-left : goal.returns-then-not-there-clause-left
returns-then-not-there-clause-left c =
    without_none c.args.link c.args.self.now (sym c.contains-there.ensures ∙ c.if-not-there.true)

pub take_by_source-requires-clause-there : goal.take_by_source-requires-clause-there
take_by_source-requires-clause-there c =
    there_too c.args.link c.self.inside.by_target.items c.self.inside.by_source.items c.self.invariant.same
    ∙ ap (list_any (is_same_link c.args.link)) c.self.view_is ∙ sym c.contains-there.ensures ∙ c.if-not-there.false

pub invariant_of-self : goal.invariant_of-self
invariant_of-self c =
    rw (c.take_by_target.ensures.items, c.take_by_source.ensures.items)
    (kept_filter (λ (k : Link). not (is_same_link k c.args.link)) _ _ _ _ _ _ c.self.invariant c.take_by_target.ensures.capacity c.take_by_source.ensures.capacity)
