use Rattle.std.proofs.Common.{◌≡◌, ℤ, ℕ, List, All, IsTrue, to_z, of_z, w64, sym, ap, subst, ◌∙◌}
use Rattle.std.proofs.lemmas.Int.{to_z-of_z}
use Rattle.sub_table.specs.Link.{Link}
use Rattle.link_prop.specs.Linked.{application_of}
use Rattle.sed_engine.specs.declared.call.Callback.TheVariants.{Start}
use Rattle.comp_tree.specs.Application.{is_live}
use Rattle.comp_tree.specs.Calls.{call_each}
use Rattle.comp_tree.specs.Cycle.{Begin, Cycled, with_links}
use Rattle.comp_tree.specs.Held.{Held, components_of}
use Rattle.comp_tree.specs.Order.{depth_first}
use Rattle.link_prop.proofs.starts.begin.Goals as goal

pub start_all-requires-clause-live : goal.start_all-requires-clause-live
start_all-requires-clause-live g c =
    subst (λ (h : Held _). All (λ id. IsTrue (is_live (components_of g.E.Engine h).by_id id)) c.as_slice.result.now) c.tree.ensures
    (subst (All (λ id. IsTrue (is_live (components_of g.E.Engine c.tree.result.now).by_id id))) (sym c.as_slice.ensures.value) c.depth_first-ids.ensures.live)

pub returns-clause-begun : goal.returns-clause-begun
returns-clause-begun g c =
    let m = g.E.Engine.meaning c.args.app.now.tree.engine in
    let links = c.args.app.now.links in
    let start = components_of g.E.Engine c.args.app.now.tree in
    let after = components_of g.E.Engine c.start_all.new.app.tree in
    let t = to_z w64 (of_z w64 c.args.ticks) in
    let same : to_z w64 (of_z w64 c.args.ticks) ≡ c.args.ticks = to_z-of_z w64 c.args.ticks c.ranges.ticks in
    let are = c.as_slice.ensures.value ∙ c.depth_first-ids.ensures.ids ∙ ap (λ (h : Held _). depth_first (components_of g.E.Engine h).by_id) c.tree.ensures in
    ap (λ (ls : List Link). let done : Cycled = record { application = record { components = after; links = ls }; traps = c.start_all.result } in done) c.start_all.ensures.links
    ∙ ap (with_links links) (sym c.start_all.ensures.started ∙ ap (λ (ids : List ℕ). call_each m Start c.args.turns t start ids) are)
    ∙ ap (λ (u : ℤ). Begin m (application_of g.E.Engine c.args.app.now) c.args.turns u) same
