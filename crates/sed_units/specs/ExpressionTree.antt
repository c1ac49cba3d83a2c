-- The tree of an expression.
use Rattle.std.specs.Prelude.{ℕ}
use Rattle.sed_units.specs.Tree.{Tree, Absent, Part, row}
use Rattle.sed_units.specs.declared.label.Label.TheVariants as label
use Rattle.sed_units.specs.declared.expressions.Node.{Node}
use Rattle.sed_units.specs.declared.expressions.Node.TheVariants as node
use Rattle.sed_units.specs.declared.expressions.Step.{Step}
use Rattle.sed_units.specs.declared.expressions.Step.TheVariants as step

abbrev pub step_tree : ℕ → Step → Tree
step_tree at (step.Member id) = Part (label.Member at id) Absent Absent
step_tree at (step.Method id args) = Part (label.Method at id) (row args.items) Absent
step_tree at (step.Index e) = Part (label.Index at) e Absent
step_tree at (step.Operand op e) = Part (label.Operand at op) e Absent

abbrev pub node_tree : ℕ → Node → Tree
node_tree at (node.Literal l) = Part (label.Literal l) Absent Absent
node_tree at node.This = Part (label.This at) Absent Absent
node_tree at (node.Super id args) = Part (label.Super at id) (row args.items) Absent
node_tree at (node.Name id) = Part (label.Name id) Absent Absent
node_tree at (node.Of kit id) = Part (label.Of kit id) Absent Absent
node_tree at (node.Call id args) = Part (label.Call id) (row args.items) Absent
node_tree at (node.Paren e) = Part (label.Paren at) e.value Absent
node_tree at (node.Prefix op e) = Part (label.Prefix at op) e.value Absent
node_tree at (node.Cast kind e) = Part (label.Cast at kind) e.value Absent
node_tree at (node.Chain e links) = Part (label.Chain at) e.value (row links.items)
node_tree at (node.Update op e) = Part (label.Update at op) e.value Absent
node_tree at (node.Conditional c a b) = Part (label.Conditional at) c.value (Part label.Both a.value b.value)
node_tree at (node.Assign op a b) = Part (label.Assign at op) a.value b.value
