use Rattle.std.proofs.Common.{◌<◌, ◌≤◌, ℕ, refl, sym, ap, subst, ◌∙◌}
use Rattle.std.specs.List.{list_any}
use Rattle.std.specs.Str.{bytes_eq}
use Rattle.comp_tree.specs.Held.{name_in}
use Rattle.comp_tree.proofs.AllowedLemmas.{child_allowed, child_bad_name, child_deep, child_limit, child_many, child_taken, few_of}
use Rattle.comp_tree.proofs.EditLemmas.{name_read, name_same, no_name}
use Rattle.comp_tree.proofs.joining.new_child.Goals as goal

pub returns-in_default-read : goal.returns-in_default-read
returns-in_default-read c = λ live.
    child_bad_name live c.args.nodes.now c.args.parent.0 c.args.name.now c.in-Some.node.now (sym c.in-Some.ensures) _ _ refl refl (no_name c.args.name.now c.in_default-read.ensures)

pub returns-then-has_child_named : goal.returns-then-has_child_named
returns-then-has_child_named c = λ live.
    child_taken live c.args.nodes.now c.args.parent.0 c.args.name.now c.in-Some.node.now (sym c.in-Some.ensures) _ _ (c.has_child_named.ensures ∙ ap (list_any (λ child. bytes_eq (name_in c.args.nodes.now child) c.args.name.now)) c.as_slice.ensures.same) refl (name_read c.args.name.now _ c.in-Some-read.ensures) c.if-has_child_named.true

pub returns-then-len-eq-MOST_CHILDREN : goal.returns-then-len-eq-MOST_CHILDREN
returns-then-len-eq-MOST_CHILDREN c = λ live.
    child_many live c.args.nodes.now c.args.parent.0 c.args.name.now c.in-Some.node.now (sym c.in-Some.ensures) _ _ (c.has_child_named.ensures ∙ ap (list_any (λ child. bytes_eq (name_in c.args.nodes.now child) c.args.name.now)) c.as_slice.ensures.same) refl (name_read c.args.name.now _ c.in-Some-read.ensures) c.if-has_child_named.false (sym c.len.ensures.same ∙ c.if-len-eq-MOST_CHILDREN.true)

pub returns-then-depth-ge-GREATEST_DEPTH : goal.returns-then-depth-ge-GREATEST_DEPTH
returns-then-depth-ge-GREATEST_DEPTH c = λ live.
    child_deep live c.args.nodes.now c.args.parent.0 c.args.name.now c.in-Some.node.now (sym c.in-Some.ensures) _ _ (c.has_child_named.ensures ∙ ap (list_any (λ child. bytes_eq (name_in c.args.nodes.now child) c.args.name.now)) c.as_slice.ensures.same) c.depth.ensures (name_read c.args.name.now _ c.in-Some-read.ensures) c.if-has_child_named.false (few_of _ _ c.len.ensures.same c.len.ensures.most c.if-len-eq-MOST_CHILDREN.false) c.if-depth-ge-GREATEST_DEPTH.true

pub returns-then-len-ge-MOST_COMPONENTS : goal.returns-then-len-ge-MOST_COMPONENTS
returns-then-len-ge-MOST_COMPONENTS c = λ live.
    child_limit live c.args.nodes.now c.args.parent.0 c.args.name.now c.in-Some.node.now (sym c.in-Some.ensures) _ _ (c.has_child_named.ensures ∙ ap (list_any (λ child. bytes_eq (name_in c.args.nodes.now child) c.args.name.now)) c.as_slice.ensures.same) c.depth.ensures (name_read c.args.name.now _ c.in-Some-read.ensures) c.if-has_child_named.false (few_of _ _ c.len.ensures.same c.len.ensures.most c.if-len-eq-MOST_CHILDREN.false) c.if-depth-ge-GREATEST_DEPTH.false (subst (λ (k : ℕ). 4096 ≤ k) c.len-2.ensures c.if-len-ge-MOST_COMPONENTS.true)

pub returns : goal.returns
returns c = λ live.
    child_allowed live c.args.nodes.now c.args.parent.0 c.args.name.now c.in-Some.node.now (sym c.in-Some.ensures) _ _ (c.has_child_named.ensures ∙ ap (list_any (λ child. bytes_eq (name_in c.args.nodes.now child) c.args.name.now)) c.as_slice.ensures.same) c.depth.ensures (name_read c.args.name.now _ c.in-Some-read.ensures) c.if-has_child_named.false (few_of _ _ c.len.ensures.same c.len.ensures.most c.if-len-eq-MOST_CHILDREN.false) c.if-depth-ge-GREATEST_DEPTH.false c.in-Some-read.new (name_same c.args.name.now _ c.in-Some-read.ensures) (subst (λ (k : ℕ). k < 4096) c.len-2.ensures c.if-len-ge-MOST_COMPONENTS.false)
