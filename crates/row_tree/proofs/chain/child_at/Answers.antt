use Rattle.std.proofs.Common.{◌≡◌, ◌∙◌, Bool, true, false, sym}
use Rattle.std.proofs.lemmas.Option.{slice_get_within}
use Rattle.row_tree.proofs.TreePlaces.{at_place}
use Rattle.row_tree.proofs.Chaining.{is_child, no_child, other_child}
use Rattle.row_tree.proofs.chain.child_at.Goals as goal

pub row_at-row-requires : goal.row_at-row-requires
row_at-row-requires c =
    let at = at_place c.args.rows.now c.args.id c.in-Some.place (sym c.place_of.ensures ∙ c.in-Some.is) in
    slice_get_within c.args.rows.now c.in-Some.place at.row at.is

pub returns-then-is_under-clause-child : goal.returns-then-is_under-clause-child
returns-then-is_under-clause-child c =
    is_child c.args.rows.now c.requires c.args.up c.args.id c.in-Some.place c.row_at-row.result (sym c.place_of.ensures ∙ c.in-Some.is) c.row_at-row.ensures (c.is_under.ensures.0 c.if-is_under.true)

pub returns-then-is_under-clause-within : goal.returns-then-is_under-clause-within
returns-then-is_under-clause-within c = slice_get_within c.args.rows.now c.in-Some.place c.row_at-row.result c.row_at-row.ensures

pub returns-else-is_under-clause-child : goal.returns-else-is_under-clause-child
returns-else-is_under-clause-child c =
    other_child c.args.rows.now c.requires c.args.up c.args.id c.in-Some.place c.row_at-row.result (sym c.place_of.ensures ∙ c.in-Some.is) c.row_at-row.ensures
    (λ under. let no : ◌≡◌ {A = Bool} true false = sym (c.is_under.ensures.1 under) ∙ c.if-is_under.false in absurd (cc))

pub returns-in-None-clause-child : goal.returns-in-None-clause-child
returns-in-None-clause-child c = no_child c.args.rows.now c.requires c.args.up c.args.id (sym c.place_of.ensures ∙ c.in-None.is)
