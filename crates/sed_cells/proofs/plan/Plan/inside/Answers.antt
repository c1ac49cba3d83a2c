use Rattle.std.proofs.Common.{◌≡◌, ℕ, ◌≤◌, ◌+◌, length, ◌∙◌, List, [], ◌∷◌, ◌++◌, sym, ap, subst, None}
use Rattle.std.specs.Prelude.{IfSome, IfNone}
use Rattle.sed_value.specs.declared.value.Value.{Value}
use Rattle.sed_typed.specs.Contents.{value_at}
use Rattle.sed_cells.specs.Layouts.{Layout, node_at, child}
use Rattle.sed_cells.specs.Places.{Plan, known, classes_in, layout_at, stands_at, class_there, place_of, contents_of}
use Rattle.sed_cells.specs.contracts.plan.Plan.{the_view}
use Rattle.sed_cells.proofs.Numbers.{fits}
use Rattle.sed_cells.proofs.Plans.{top_is, layout-is, layout-ok, found-at, nothing-at, no-class-at}
use Rattle.sed_cells.proofs.plan.Plan.inside.Goals as goal

pub step_from-requires : goal.step_from-requires
step_from-requires c = λ n.
    let p : Plan = the_view c.self.inside in
    let top = c.args.top in
    let within : top ≤ classes_in p = subst (λ (q : Plan). top ≤ classes_in q) (sym c.self.view_is) c.requires in
    let x_is = layout-is p c.self.invariant.0 top within c.index.result.now c.index.ensures in
    subst (λ (l : Layout). (node_at l.nodes n).first + (node_at l.nodes n).count ≤ length l.nodes) (sym x_is)
    (fits p.program (stands_at p.program top) (layout_at p top).nodes (layout_at p top).values (layout-ok p c.self.invariant.0 top within) n)

pub returns-clause-found : goal.returns-clause-found
returns-clause-found c =
    let p : Plan = the_view c.self.inside in
    let top = c.args.top in
    let within : top ≤ classes_in p = subst (λ (q : Plan). top ≤ classes_in q) (sym c.self.view_is) c.requires in
    let x_is = layout-is p c.self.invariant.0 top within c.index.result.now c.index.ensures in
    let child_is = c.step_from.ensures ∙ ap (λ (l : Layout). child l.nodes (known l.nodes c.args.place) c.args.step) x_is in
    subst (λ (q : Plan). IfSome c.step_from.result (λ m. place_of q top m ≡ place_of q top c.args.place ++ c.args.step ∷ [])) c.self.view_is
    (found-at p.program (stands_at p.program top) (top_is p.program top) (layout_at p top) (layout-ok p c.self.invariant.0 top within) c.args.place c.args.step c.step_from.result child_is)

pub returns-clause-nothing : goal.returns-clause-nothing
returns-clause-nothing c =
    let p : Plan = the_view c.self.inside in
    let top = c.args.top in
    let within : top ≤ classes_in p = subst (λ (q : Plan). top ≤ classes_in q) (sym c.self.view_is) c.requires in
    let x_is = layout-is p c.self.invariant.0 top within c.index.result.now c.index.ensures in
    let child_is = c.step_from.ensures ∙ ap (λ (l : Layout). child l.nodes (known l.nodes c.args.place) c.args.step) x_is in
    subst (λ (q : Plan). IfNone c.step_from.result ((values : List Value) (rest : List ℕ) → value_at (contents_of q top values) (place_of q top c.args.place ++ c.args.step ∷ rest) ≡ None)) c.self.view_is
    (nothing-at p.program (stands_at p.program top) (top_is p.program top) (layout_at p top) (layout-ok p c.self.invariant.0 top within) c.args.place c.args.step c.step_from.result child_is)

pub returns-clause-no_class : goal.returns-clause-no_class
returns-clause-no_class c =
    let p : Plan = the_view c.self.inside in
    let top = c.args.top in
    let within : top ≤ classes_in p = subst (λ (q : Plan). top ≤ classes_in q) (sym c.self.view_is) c.requires in
    let x_is = layout-is p c.self.invariant.0 top within c.index.result.now c.index.ensures in
    let child_is = c.step_from.ensures ∙ ap (λ (l : Layout). child l.nodes (known l.nodes c.args.place) c.args.step) x_is in
    subst (λ (q : Plan). IfNone c.step_from.result (class_there q.program top (place_of q top c.args.place ++ c.args.step ∷ []) ≡ None)) c.self.view_is
    (no-class-at p.program (stands_at p.program top) (top_is p.program top) (layout_at p top) (layout-ok p c.self.invariant.0 top within) c.args.place c.args.step c.step_from.result child_is)
