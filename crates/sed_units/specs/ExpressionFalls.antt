-- The parts of an expression are smaller than it.
use Rattle.std.specs.Prelude.{ℕ, ◌+◌, ◌≤◌, List, [], ◌∷◌}
use Rattle.std.proofs.Common.{arith}
use denote.Param.Weighed.{most}
use Rattle.sed_units.specs.Tree.{Tree, row, tree_size}
use Rattle.sed_units.specs.ExpressionTree.{node_tree, step_tree}
use Rattle.sed_units.specs.declared.expressions.Node.{Node}
use Rattle.sed_units.specs.declared.expressions.Node.TheVariants as node
use Rattle.sed_units.specs.declared.expressions.Step.{Step}
use Rattle.sed_units.specs.declared.expressions.Step.TheVariants as step
use Rattle.sed_units.specs.declared.expressions.Expr.TheDeep.{deep-Node, deep-Step}

pub row_falls : (ts : List Tree) → most (λ t. tree_size t + 1) ts ≤ tree_size (row ts) + 1
row_falls [] = omega arith
row_falls (t ∷ ts) = omega (arith, row_falls ts)

pub step_falls : (at : ℕ) (s : Step) → deep-Step s ≤ tree_size (step_tree at s)
step_falls at (step.Member id) = omega arith
step_falls at (step.Method id args) = omega (arith, row_falls args.items)
step_falls at (step.Index e) = omega arith
step_falls at (step.Operand op e) = omega arith

pub node_falls : (at : ℕ) (n : Node) → deep-Node n ≤ tree_size (node_tree at n)
node_falls at (node.Literal l) = omega arith
node_falls at node.This = omega arith
node_falls at (node.Super id args) = omega (arith, row_falls args.items)
node_falls at (node.Name id) = omega arith
node_falls at (node.Of kit id) = omega arith
node_falls at (node.Call id args) = omega (arith, row_falls args.items)
node_falls at (node.Paren e) = omega arith
node_falls at (node.Prefix op e) = omega arith
node_falls at (node.Cast kind e) = omega arith
node_falls at (node.Chain e links) = omega (arith, row_falls links.items)
node_falls at (node.Update op e) = omega arith
node_falls at (node.Conditional c a b) = omega arith
node_falls at (node.Assign op a b) = omega arith
