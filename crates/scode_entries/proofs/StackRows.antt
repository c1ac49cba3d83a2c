-- The greatest stack of a row of trees is that of its list.
use Rattle.std.proofs.Common.{◌≡◌, ℕ, suc, max, List, Vec, Global, refl, ap, ◌∙◌}
use mathlib.Core.Former.{Count}
use Rattle.sed_typed.specs.declared.statement.Stmt.{Stmt, Row_of-Stmt, end_of-Stmt, more_of-Stmt, items-the_row-Stmt, items_hidden-the_row-Stmt-0}
use Rattle.sed_typed.specs.declared.statement.Stmt.TheBlock.{hidden-the_row-Stmt-0}
use Rattle.sed_typed.specs.declared.tree.Expr.{Expr, Row_of-Expr, end_of-Expr, more_of-Expr, items-the_row-Expr, items_hidden-the_row-Expr-0, Row_of-Link, end_of-Link, more_of-Link, items-the_row-Link, items_hidden-the_row-Link-1}
use Rattle.sed_typed.specs.declared.tree.Expr.TheBlock.{hidden-the_row-Expr-0, hidden-the_row-Link-1}
use Rattle.sed_typed.specs.declared.tree.Link.{Link}
use Rattle.scode_entries.specs.Stack.{expr_stack, exprs_stack, link_stack, links_stack, stmt_stack, stmts_stack}
use Rattle.scode_entries.specs.StackLists.{args_stack, behind_stack, block_stack}

args_are : {n : Count} (row : Row_of-Expr n) → exprs_stack row ≡ args_stack (items-the_row-Expr n row)
args_are end_of-Expr = refl
args_are (more_of-Expr e es) = ap (λ (n : ℕ). max (expr_stack e) (suc n)) (args_are es)

pub args_hidden : (args : Vec Expr Global) → exprs_stack (hidden-the_row-Expr-0 args) ≡ args_stack args.items
args_hidden args = args_are (hidden-the_row-Expr-0 args) ∙ ap args_stack (items_hidden-the_row-Expr-0 args)

links_are : {n : Count} (row : Row_of-Link n) → links_stack row ≡ behind_stack (items-the_row-Link n row)
links_are end_of-Link = refl
links_are (more_of-Link l ls) = ap (λ (n : ℕ). max (link_stack l) n) (links_are ls)

pub links_hidden : (links : Vec Link Global) → links_stack (hidden-the_row-Link-1 links) ≡ behind_stack links.items
links_hidden links = links_are (hidden-the_row-Link-1 links) ∙ ap behind_stack (items_hidden-the_row-Link-1 links)

stmts_are : {n : Count} (row : Row_of-Stmt n) → stmts_stack row ≡ block_stack (items-the_row-Stmt n row)
stmts_are end_of-Stmt = refl
stmts_are (more_of-Stmt s ss) = ap (λ (n : ℕ). max (stmt_stack s) n) (stmts_are ss)

pub stmts_hidden : (all : Vec Stmt Global) → stmts_stack (hidden-the_row-Stmt-0 all) ≡ block_stack all.items
stmts_hidden all = stmts_are (hidden-the_row-Stmt-0 all) ∙ ap block_stack (items_hidden-the_row-Stmt-0 all)
