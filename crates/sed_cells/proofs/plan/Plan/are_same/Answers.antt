use Rattle.std.proofs.Common.{◌≤◌, ◌∙◌, ℕ, sym, ap, subst}
use Rattle.std.specs.Prelude.{nat_eq}
use Rattle.std.specs.Str.{bytes_eq}
use Rattle.sed_cells.specs.Layouts.{Layout}
use Rattle.sed_cells.specs.Places.{Plan, known, classes_in, layout_at, stands_at, place_of}
use Rattle.sed_cells.specs.contracts.plan.Plan.{the_view}
use Rattle.sed_cells.proofs.Plans.{top_is, layout-is, layout-ok, same-at}
use Rattle.sed_cells.proofs.plan.Plan.are_same.Goals as goal

pub returns : goal.returns
returns c =
    let p : Plan = the_view c.self.inside in
    let top = c.args.top in
    let within : top ≤ classes_in p = subst (λ (q : Plan). top ≤ classes_in q) (sym c.self.view_is) c.requires in
    let x_is = layout-is p c.self.invariant.0 top within c.index-layout.result.now c.index-layout.ensures in
    ap (λ (n : ℕ). nat_eq n c.known-2.result) c.known.ensures
    ∙ ap (λ (n : ℕ). nat_eq (known c.index-layout.result.now.nodes c.args.a) n) c.known-2.ensures
    ∙ ap (λ (l : Layout). nat_eq (known l.nodes c.args.a) (known l.nodes c.args.b)) x_is
    ∙ same-at p.program (stands_at p.program top) (top_is p.program top) (layout_at p top) (layout-ok p c.self.invariant.0 top within) c.args.a c.args.b
    ∙ ap (λ (q : Plan). bytes_eq (place_of q top c.args.a) (place_of q top c.args.b)) c.self.view_is
