-- The greatest stacks of rows of trees as lists, for the private clauses of who finds them. No public clause rests on
-- it.
use Rattle.std.specs.Prelude.{ℕ, suc, max, List, [], ◌∷◌}
use Rattle.sed_typed.specs.declared.statement.Stmt.{Stmt}
use Rattle.sed_typed.specs.declared.tree.Expr.{Expr}
use Rattle.sed_typed.specs.declared.tree.Link.{Link}
use Rattle.scode_entries.specs.Stack.{expr_stack, link_stack, stmt_stack}

-- one above the other
abbrev pub args_stack : List Expr → ℕ
args_stack [] = 0
args_stack (e ∷ es) = max (expr_stack e) (suc (args_stack es))

abbrev pub behind_stack : List Link → ℕ
behind_stack [] = 0
behind_stack (l ∷ ls) = max (link_stack l) (behind_stack ls)

abbrev pub block_stack : List Stmt → ℕ
block_stack [] = 0
block_stack (s ∷ ss) = max (stmt_stack s) (block_stack ss)
