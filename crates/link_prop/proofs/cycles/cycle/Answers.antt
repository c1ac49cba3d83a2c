use Rattle.std.proofs.Common.{◌≡◌, ℤ, ℕ, List, to_z, of_z, w64, sym, ap, ◌∙◌}
use Rattle.std.proofs.lemmas.Int.{to_z-of_z}
use Rattle.std.specs.List.{fold}
use Rattle.sub_table.specs.Link.{Link}
use Rattle.link_prop.specs.Linked.{application_of}
use Rattle.comp_tree.specs.Cycle.{Cycle, Cycled, visit, with_links}
use Rattle.comp_tree.specs.Held.{Held, components_of}
use Rattle.comp_tree.specs.Order.{depth_first}
use Rattle.link_prop.proofs.cycles.cycle.Goals as goal

pub returns-clause-cycled : goal.returns-clause-cycled
returns-clause-cycled g c =
    let m = g.E.Engine.meaning c.args.app.now.tree.engine in
    let links = c.args.app.now.links in
    let start = components_of g.E.Engine c.args.app.now.tree in
    let after = components_of g.E.Engine c.visit_all.new.app.tree in
    let t = to_z w64 (of_z w64 c.args.ticks) in
    let same : to_z w64 (of_z w64 c.args.ticks) ≡ c.args.ticks = to_z-of_z w64 c.args.ticks c.ranges.ticks in
    let are = c.as_slice.ensures.value ∙ c.depth_first-ids.ensures.ids ∙ ap (λ (h : Held _). depth_first (components_of g.E.Engine h).by_id) c.tree.ensures in
    ap (λ (ls : List Link). let done : Cycled = record { application = record { components = after; links = ls }; traps = c.visit_all.result } in done) c.visit_all.ensures.links
    ∙ ap (with_links links) (sym c.visit_all.ensures.visited ∙ ap (λ (ids : List ℕ). fold (visit m links c.args.turns t) (record { left = start; traps = 0 }) ids) are)
    ∙ ap (λ (u : ℤ). Cycle m (application_of g.E.Engine c.args.app.now) c.args.turns u) same
