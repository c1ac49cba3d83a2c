-- A row of trees is within a bound exactly where each of them is.
use Rattle.std.specs.Prelude.{max, nat_le}
use Rattle.std.specs.List.{list_all}
use Rattle.std.proofs.Common.{◌≡◌, ℕ, suc, ◌+◌, ◌&&◌, Vec, Global, ap, ◌∙◌, arith}
use Rattle.std.proofs.lemmas.Bool.Decides.{nat_tests}
use mathlib.Core.Former.{Count}
use Rattle.sed_typed.specs.declared.statement.Stmt.{Stmt, Row_of-Stmt, end_of-Stmt, more_of-Stmt, items-the_row-Stmt, items_hidden-the_row-Stmt-0}
use Rattle.sed_typed.specs.declared.statement.Stmt.TheBlock.{hidden-the_row-Stmt-0}
use Rattle.sed_typed.specs.declared.tree.Expr.{Expr, Row_of-Expr, end_of-Expr, more_of-Expr, items-the_row-Expr, items_hidden-the_row-Expr-0, Row_of-Link, end_of-Link, more_of-Link, items-the_row-Link, items_hidden-the_row-Link-1}
use Rattle.sed_typed.specs.declared.tree.Expr.TheBlock.{hidden-the_row-Expr-0, hidden-the_row-Link-1}
use Rattle.sed_typed.specs.declared.tree.Link.{Link}
use Rattle.sed_typed.specs.Height.{height_of, heights_of, link_height, links_height, stmt_height, stmts_height}

-- the higher of two
pub both_within : (a b n : ℕ) → nat_le (max a b) n ≡ (nat_le a n && nat_le b n)
both_within a b n = grind (arith, nat_tests)

-- one level more on both sides
pub level_more : (h n : ℕ) → nat_le (suc h) (n + 1) ≡ nat_le h n
level_more h n = grind (arith, nat_tests)

args_are : {k : Count} (n : ℕ) (row : Row_of-Expr k) →
    nat_le (heights_of row) n ≡ list_all (λ e. nat_le (height_of e) n) (items-the_row-Expr k row)
args_are n end_of-Expr = grind (arith, nat_tests)
args_are n (more_of-Expr e es) =
    both_within (height_of e) (heights_of es) n ∙ ap (λ t. nat_le (height_of e) n && t) (args_are n es)

pub args_within : (n : ℕ) (args : Vec Expr Global) →
    nat_le (heights_of (hidden-the_row-Expr-0 args)) n ≡ list_all (λ e. nat_le (height_of e) n) args.items
args_within n args =
    args_are n (hidden-the_row-Expr-0 args)
    ∙ ap (list_all (λ e. nat_le (height_of e) n)) (items_hidden-the_row-Expr-0 args)

links_are : {k : Count} (n : ℕ) (row : Row_of-Link k) →
    nat_le (links_height row) n ≡ list_all (λ l. nat_le (link_height l) n) (items-the_row-Link k row)
links_are n end_of-Link = grind (arith, nat_tests)
links_are n (more_of-Link l ls) =
    both_within (link_height l) (links_height ls) n ∙ ap (λ t. nat_le (link_height l) n && t) (links_are n ls)

pub links_within : (n : ℕ) (links : Vec Link Global) →
    nat_le (links_height (hidden-the_row-Link-1 links)) n ≡ list_all (λ l. nat_le (link_height l) n) links.items
links_within n links =
    links_are n (hidden-the_row-Link-1 links)
    ∙ ap (list_all (λ l. nat_le (link_height l) n)) (items_hidden-the_row-Link-1 links)

stmts_are : {k : Count} (n : ℕ) (row : Row_of-Stmt k) →
    nat_le (stmts_height row) n ≡ list_all (λ s. nat_le (stmt_height s) n) (items-the_row-Stmt k row)
stmts_are n end_of-Stmt = grind (arith, nat_tests)
stmts_are n (more_of-Stmt s ss) =
    both_within (stmt_height s) (stmts_height ss) n ∙ ap (λ t. nat_le (stmt_height s) n && t) (stmts_are n ss)

pub stmts_within : (n : ℕ) (all : Vec Stmt Global) →
    nat_le (stmts_height (hidden-the_row-Stmt-0 all)) n ≡ list_all (λ s. nat_le (stmt_height s) n) all.items
stmts_within n all =
    stmts_are n (hidden-the_row-Stmt-0 all)
    ∙ ap (list_all (λ s. nat_le (stmt_height s) n)) (items_hidden-the_row-Stmt-0 all)

-- for the parts of a statement
pub ruleset parts_within = (stmts_within, both_within, level_more)
