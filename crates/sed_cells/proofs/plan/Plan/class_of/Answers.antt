use Rattle.std.proofs.Common.{◌≤◌, ◌∙◌, sym, ap, subst}
use Rattle.sed_cells.specs.Layouts.{Layout, node_at, class_standing}
use Rattle.sed_cells.specs.Places.{Plan, known, classes_in, layout_at, stands_at, class_there, place_of}
use Rattle.sed_cells.specs.contracts.plan.Plan.{the_view}
use Rattle.sed_cells.proofs.Plans.{top_is, layout-is, layout-ok, class-at}
use Rattle.sed_cells.proofs.plan.Plan.class_of.Goals as goal

pub returns : goal.returns
returns c =
    let p : Plan = the_view c.self.inside in
    let top = c.args.top in
    let within : top ≤ classes_in p = subst (λ (q : Plan). top ≤ classes_in q) (sym c.self.view_is) c.requires in
    let x_is = layout-is p c.self.invariant.0 top within c.index.result.now c.index.ensures in
    c.class_of.ensures
    ∙ ap (λ (l : Layout). class_standing (node_at l.nodes (known l.nodes c.args.place)).stands) x_is
    ∙ sym (class-at p.program (stands_at p.program top) (top_is p.program top) (layout_at p top) (layout-ok p c.self.invariant.0 top within) c.args.place)
    ∙ ap (λ (q : Plan). class_there q.program top (place_of q top c.args.place)) c.self.view_is
