use Rattle.std.proofs.Common.{◌<◌, length, arith, ap, ◌∙◌, sym}
use Rattle.std.specs.List.{list_any}
use Rattle.sub_table.specs.Link.{most_links}
use Rattle.sub_table.specs.Links.{has_target, with_link}
use Rattle.sub_table.proofs.OrderLemmas.{with_is}
use Rattle.sub_table.proofs.KeptLemmas.{kept_with, same_length}
use Rattle.sub_table.proofs.links.Links.insert.Goals as goal

pub put_by_source-requires-clause-room : goal.put_by_source-requires-clause-room
put_by_source-requires-clause-room c =
    omega (arith, same_length c.self.inside.by_target.items c.self.inside.by_source.items c.self.invariant.same, c.self.inside.by_source.ok.0, c.self.invariant.has_other_room, ap length c.self.view_is, c.requires.room)

pub invariant_of-self : goal.invariant_of-self
invariant_of-self c =
    let free = ap (list_any (has_target c.args.link.to c.args.link.to_slot)) c.self.view_is ∙ c.requires.target in
    let few : length c.self.inside.by_target.items < most_links = omega (arith, ap length c.self.view_is, c.requires.room) in
    rw (c.put_by_target.ensures.items, c.put_by_source.ensures.items)
    (kept_with _ _ _ _ _ _ c.self.invariant c.args.link free few c.put_by_target.ensures.capacity c.put_by_source.ensures.capacity)

pub returns : goal.returns
returns c =
    c.put_by_target.ensures.items
    ∙ sym (with_is c.args.link c.self.inside.by_target.items c.self.invariant.targets)
    ∙ ap (with_link c.args.link) c.self.view_is
