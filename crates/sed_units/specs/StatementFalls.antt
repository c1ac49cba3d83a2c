-- The statements within a statement are smaller than it.
use Rattle.std.specs.Prelude.{ℕ, ◌+◌, ◌≤◌, List, Option, Some, None}
use Rattle.std.proofs.Common.{arith}
use denote.Param.Weighed.{most}
use Rattle.sed_units.specs.Tree.{Tree, tree_size}
use Rattle.sed_units.specs.ExpressionFalls.{row_falls}
use Rattle.sed_units.specs.StatementTree.{form_tree, case_tree}
use Rattle.sed_units.specs.declared.statements.Form.{Form}
use Rattle.sed_units.specs.declared.statements.Form.TheVariants as form
use Rattle.sed_units.specs.declared.statements.Case.TheDeep.{deep-Form}

pub case_falls : (at : ℕ) (l : Option Tree) (body : List Tree)
    → most (λ t. tree_size t + 1) body ≤ tree_size (case_tree at l body)
case_falls at None body = omega (arith, row_falls body)
case_falls at (Some e) body = omega (arith, row_falls body)

pub form_falls : (at : ℕ) (f : Form) → deep-Form f ≤ tree_size (form_tree at f)
form_falls at (form.Block ss) = omega (arith, row_falls ss.items)
form_falls at form.Empty = omega arith
form_falls at (form.If c s) = omega arith
form_falls at (form.IfElse c s t) = omega arith
form_falls at (form.While c s) = omega arith
form_falls at (form.DoWhile s c) = omega arith
form_falls at (form.For head s) = omega arith
form_falls at (form.Switch e cs) = omega (arith, row_falls cs.items)
form_falls at form.Break = omega arith
form_falls at form.Continue = omega arith
form_falls at (form.Return e) = omega arith
form_falls at (form.Local l) = omega arith
form_falls at (form.Evaluate e) = omega arith
