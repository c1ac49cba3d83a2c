use Rattle.std.proofs.Common.{ℕ, List, [], ◌∷◌, ◌++◌, ◌<◌, length, sym, ap, ◌∙◌}
use Rattle.std.specs.FinMap as map
use Rattle.node_table.specs.declared.node.Node.{Node}
use Rattle.node_table.specs.Changed.{touched, with_marks, with_children}
use Rattle.node_table.specs.declared.marks.Parts.{Parts}
use Rattle.comp_tree.proofs.EditLemmas.{of_found}
use Rattle.comp_tree.proofs.NodeTrees.{back_is}
use Rattle.comp_tree.proofs.MapLemmas.{taken_out}
use Rattle.comp_tree.proofs.tree.adding.push_child.Goals as goal

pub push-requires : goal.push-requires
push-requires c = of_found _ c.in-Some.node (λ (n : Node). length n.children < 200) (sym c.in-Some.ensures.value) c.requires.few

pub insert-requires-clause-free : goal.insert-requires-clause-free
insert-requires-clause-free c = ap (λ m. map.get m c.args.id.0) c.remove.ensures.removed ∙ taken_out c.args.nodes.now c.args.id.0

pub returns-in-Some : goal.returns-in-Some
returns-in-Some c =
    back_is c.args.nodes.now c.remove.new.self c.insert.new.self c.args.id.0 c.in-Some.node (λ (n : Node). with_children (n.children ++ c.args.child.0 ∷ []) n) c.remove.ensures.removed (sym c.in-Some.ensures.value)
    (c.insert.ensures ∙ ap (λ (ms : List Parts). map.insert c.remove.new.self c.args.id.0 (with_marks ms (with_children c.push.new.self c.in-Some.node))) (c.touch.ensures ∙ ap (λ (p : Parts). touched p c.in-Some.node.marks) c.of_tree.ensures)
    ∙ ap (λ (xs : List ℕ). map.insert c.remove.new.self c.args.id.0 (with_children xs c.in-Some.node)) c.push.ensures)
