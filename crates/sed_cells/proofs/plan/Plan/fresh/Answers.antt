use Rattle.std.proofs.Common.{◌≡◌, ◌≤◌, ◌∙◌, List, sym, ap, subst}
use Rattle.std.specs.Prelude.{IfOk}
use Rattle.std.proofs.lemmas.Result.{IfOk-weaker}
use Rattle.sed_value.specs.declared.value.Value.{Value}
use Rattle.sed_cells.specs.Layouts.{Layout}
use Rattle.sed_cells.specs.Places.{Plan, classes_in, layout_at, stands_at, first_at, contents_of}
use Rattle.sed_cells.specs.contracts.plan.Plan.{the_view}
use Rattle.sed_cells.proofs.Plans.{top_is, layout-is, layout-ok, of-fresh}
use Rattle.sed_cells.proofs.plan.Plan.fresh.Goals as goal

pub returns : goal.returns
returns c =
    let p : Plan = the_view c.self.inside in
    let top = c.args.top in
    let within : top ≤ classes_in p = subst (λ (q : Plan). top ≤ classes_in q) (sym c.self.view_is) c.requires in
    let x_is = layout-is p c.self.invariant.0 top within c.index.result.now c.index.ensures in
    subst (λ (q : Plan). IfOk c.copy.result (λ cells. contents_of q top cells ≡ first_at q.program top)) c.self.view_is
    (IfOk-weaker c.copy.result (λ (cells : List Value). cells ≡ c.fresh.result.now) (λ (cells : List Value). contents_of p top cells ≡ first_at p.program top) (λ cells e. ap (contents_of p top) (e ∙ c.fresh.ensures ∙ ap (λ (l : Layout). l.values) x_is) ∙ of-fresh p.program (stands_at p.program top) (top_is p.program top) (layout_at p top) (layout-ok p c.self.invariant.0 top within)) c.copy.ensures)
