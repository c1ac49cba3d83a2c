use Rattle.std.proofs.Common.{◌≡◌, ◌≤◌, ◌<◌, length, ◌∙◌, List, sym, ap, subst, Some, None}
use Rattle.std.specs.Prelude.{IfSome, if◌then◌else◌, slice_set}
use Rattle.std.specs.Option.{option_map}
use Rattle.std.proofs.Math.ListN.{get_or}
use Rattle.sed_value.specs.declared.value.Value.{Value}
use Rattle.sed_value.specs.declared.value.Value.TheVariants as kept
use Rattle.sed_typed.specs.Contents.{value_at, with_value}
use Rattle.sed_cells.specs.Layouts.{Layout, node_at, keeps_value}
use Rattle.sed_cells.specs.Places.{Plan, known, classes_in, layout_at, stands_at, place_of, contents_of}
use Rattle.sed_cells.specs.contracts.plan.Plan.{the_view}
use Rattle.sed_cells.proofs.Plans.{top_is, layout-is, layout-ok, read-at, written-at}
use Rattle.sed_cells.proofs.plan.Plan.cell.Goals as goal

pub returns-clause-read : goal.returns-clause-read
returns-clause-read c = λ values.
    let p : Plan = the_view c.self.inside in
    let top = c.args.top in
    let within : top ≤ classes_in p = subst (λ (q : Plan). top ≤ classes_in q) (sym c.self.view_is) c.requires in
    let x_is = layout-is p c.self.invariant.0 top within c.index.result.now c.index.ensures in
    let found = c.cell.ensures ∙ ap (λ (l : Layout). if keeps_value (node_at l.nodes (known l.nodes c.args.place)).stands then Some (known l.nodes c.args.place) else None) x_is in
    subst (λ (q : Plan). value_at (contents_of q top values) (place_of q top c.args.place) ≡ option_map (λ n. get_or values n kept.Nothing) c.cell.result) c.self.view_is
    (read-at p.program (stands_at p.program top) (top_is p.program top) (layout_at p top) (layout-ok p c.self.invariant.0 top within) c.args.place c.cell.result found values)

pub returns-clause-written : goal.returns-clause-written
returns-clause-written c =
    let p : Plan = the_view c.self.inside in
    let top = c.args.top in
    let within : top ≤ classes_in p = subst (λ (q : Plan). top ≤ classes_in q) (sym c.self.view_is) c.requires in
    let x_is = layout-is p c.self.invariant.0 top within c.index.result.now c.index.ensures in
    let found = c.cell.ensures ∙ ap (λ (l : Layout). if keeps_value (node_at l.nodes (known l.nodes c.args.place)).stands then Some (known l.nodes c.args.place) else None) x_is in
    subst (λ (q : Plan). IfSome c.cell.result (λ n. (values : List Value) (v : Value) → n < length values → contents_of q top (slice_set values n v) ≡ with_value (contents_of q top values) (place_of q top c.args.place) v)) c.self.view_is
    (written-at p.program (stands_at p.program top) (top_is p.program top) (layout_at p top) (layout-ok p c.self.invariant.0 top within) c.args.place c.cell.result found)
