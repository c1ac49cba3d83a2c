use Rattle.std.proofs.Common.{◌≡◌, ◌∙◌, ℕ, ap, subst}
use Rattle.sed_cells.specs.Places.{Plan, classes_in, contents_of, first_at}
use Rattle.sed_value.specs.declared.value.Value.{Value}
use Rattle.std.proofs.Common.{List}
use Rattle.sed_walker.proofs.Changes.{first_is, held-first}
use Rattle.sed_walker.proofs.walker.Walker.new.Goals as goal

-- first contents of the statics, in the plan that is lent
begins : (lent other plan : Plan) (top : ℕ) (cells : List Value) → lent ≡ plan → other ≡ plan → top ≡ classes_in other
    → contents_of lent top cells ≡ first_at lent.program top → contents_of plan (classes_in plan) cells ≡ first_at plan.program (classes_in plan)
begins lent other plan top cells e f is h =
    subst (λ (p : Plan). contents_of p (classes_in plan) cells ≡ first_at p.program (classes_in plan)) e
    (subst (λ (k : ℕ). contents_of lent k cells ≡ first_at lent.program k) (is ∙ ap classes_in f) h)

pub invariant_of-result : goal.invariant_of-result
invariant_of-result c =
    let plan = c.in_ok-slots.slots in
    held-first plan c.args.program c.in_ok-slots.ensures c.new-2.result c.new-2.ensures.empty c.in_ok-statics.statics c.args.limit
    (c.typed_programs_are_whole.ensures c.args.program c.requires) c.schema_is_spelled_out.ensures.told
    (begins c.plan.result.now c.plan-2.result.now plan c.statics.result c.in_ok-statics.statics c.plan.ensures c.plan-2.ensures c.statics.ensures c.in_ok-statics.ensures)

pub returns-clause-statics : goal.returns-clause-statics
returns-clause-statics c =
    let plan = c.in_ok-slots.slots in
    first_is plan c.args.program c.in_ok-slots.ensures c.new-2.result c.new-2.ensures.empty c.in_ok-statics.statics c.args.limit
    (begins c.plan.result.now c.plan-2.result.now plan c.statics.result c.in_ok-statics.statics c.plan.ensures c.plan-2.ensures c.statics.ensures c.in_ok-statics.ensures)
