use Rattle.std.proofs.Common.{ℕ, List, sym, ap, ◌∙◌}
use Rattle.comp_tree.specs.Refusals.{are_each_once}
use Rattle.comp_tree.proofs.EditLemmas.{reorder_allowed, reorder_no_component, reorder_others, reorder_too_many}
use Rattle.comp_tree.proofs.order.new_order.Goals as goal

pub returns-in_default-clause-first : goal.returns-in_default-clause-first
returns-in_default-clause-first c = λ live. reorder_no_component live c.args.nodes.now c.args.id.0 c.args.bytes.now (sym c.in_default.ensures)

pub returns-in_default-read_ids-clause-first : goal.returns-in_default-read_ids-clause-first
returns-in_default-read_ids-clause-first c = λ live.
    reorder_too_many live c.args.nodes.now c.args.id.0 c.args.bytes.now c.in-Some.node.now (sym c.in-Some.ensures) 200 c.as_slice-children.ensures.most c.in_default-read_ids.ensures

pub returns-then-not-are_each_once-clause-first : goal.returns-then-not-are_each_once-clause-first
returns-then-not-are_each_once-clause-first c = λ live.
    reorder_others live c.args.nodes.now c.args.id.0 c.args.bytes.now c.in-Some.node.now (sym c.in-Some.ensures) c.in-Some-read_ids.ids c.in-Some-read_ids.ensures
    (ap (λ (xs : List ℕ). are_each_once xs c.in-Some-read_ids.ids) (sym c.as_slice-children.ensures.same)
    ∙ ap (are_each_once c.as_slice-children.result.now) (sym c.as_slice.ensures.same)
    ∙ sym c.are_each_once.ensures ∙ (let t = c.if-not-are_each_once.true in cc))

pub returns-clause-first : goal.returns-clause-first
returns-clause-first c = λ live.
    reorder_allowed live c.args.nodes.now c.args.id.0 c.args.bytes.now c.in-Some.node.now (sym c.in-Some.ensures) c.in-Some-read_ids.ids c.in-Some-read_ids.ensures
    (ap (λ (xs : List ℕ). are_each_once xs c.in-Some-read_ids.ids) (sym c.as_slice-children.ensures.same)
    ∙ ap (are_each_once c.as_slice-children.result.now) (sym c.as_slice.ensures.same)
    ∙ sym c.are_each_once.ensures ∙ (let f = c.if-not-are_each_once.false in cc))
