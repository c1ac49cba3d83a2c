use Rattle.std.proofs.Common.{List, sym, ap, ◌∙◌}
use Rattle.std.specs.FinMap as map
use Rattle.node_table.specs.Changed.{touched, with_marks, with_name}
use Rattle.node_table.specs.declared.marks.Parts.{Parts}
use Rattle.comp_tree.proofs.NodeTrees.{back_is}
use Rattle.comp_tree.proofs.MapLemmas.{taken_out}
use Rattle.comp_tree.proofs.siblings.rename_node.Goals as goal

pub insert-requires-clause-free : goal.insert-requires-clause-free
insert-requires-clause-free c = ap (λ m. map.get m c.args.id.0) c.remove.ensures.removed ∙ taken_out c.args.nodes.now c.args.id.0

pub returns-in-Some : goal.returns-in-Some
returns-in-Some c =
    back_is c.args.nodes.now c.remove.new.self c.insert.new.self c.args.id.0 c.in-Some.node (with_name c.args.name) c.remove.ensures.removed (sym c.in-Some.ensures.value)
    (c.insert.ensures ∙ ap (λ (ms : List Parts). map.insert c.remove.new.self c.args.id.0 (with_marks ms (with_name c.args.name c.in-Some.node))) (c.touch.ensures ∙ ap (λ (p : Parts). touched p c.in-Some.node.marks) c.of_tree.ensures))
