-- How many cells the code of a tree has on the stack at most, above what is there when it begins.
use Rattle.std.specs.Prelude.{ℕ, suc, ◌+◌, max, Option, Some, None}
use Rattle.sed_typed.specs.declared.statement.Stmt.{Stmt, Row_of-Stmt, end_of-Stmt, more_of-Stmt}
use Rattle.sed_typed.specs.declared.statement.Stmt.TheVariants as stmt
use Rattle.sed_typed.specs.declared.tree.Place.{Place}
use Rattle.sed_typed.specs.declared.tree.Place.TheVariants as place
use Rattle.sed_typed.specs.declared.tree.Expr.{Expr, Row_of-Expr, end_of-Expr, more_of-Expr, Row_of-Link, end_of-Link}
use Rattle.sed_typed.specs.declared.tree.Expr.{more_of-Link}
use Rattle.sed_typed.specs.declared.tree.Expr.TheVariants as expr
use Rattle.sed_typed.specs.declared.tree.Link.{Link}
use Rattle.sed_typed.specs.declared.tree.Link.TheVariants as link

-- the cells that stand on the stack before a value is stored at a place
abbrev pub place_cells : Place → ℕ
place_cells (place.Local k i) = 0
place_cells (place.Static p i) = 1
place_cells (place.Field' p q e i) = 1
place_cells (place.Element' p n q e f r i) = 2
place_cells (place.StaticElement' p n i q e) = 2

-- a value that is stored in a local stands there twice where it is kept; one that is computed stands above the value
-- before it
abbrev mutual
  pub expr_stack : Expr → ℕ
  expr_stack (expr.StaticElement' p n i q e) = suc (expr_stack e)
  expr_stack (expr.Unary' u p e) = expr_stack e
  expr_stack (expr.Choose' p t q a r b) = max (expr_stack t) (max (expr_stack a) (expr_stack b))
  expr_stack (expr.Set' target p e) = max (place_stack target) (place_cells target + suc (expr_stack e))
  expr_stack (expr.Update' u target p e) = max (place_stack target) (place_cells target + 2 + expr_stack e)
  expr_stack (expr.Call' k m shape args) = suc (exprs_stack args)
  expr_stack (expr.Super' k m shape args) = suc (exprs_stack args)
  expr_stack (expr.Chain' p e shape links) = max (expr_stack e) (links_stack links)
  expr_stack e = 1

  pub place_stack : Place → ℕ
  place_stack (place.Local k i) = 0
  place_stack (place.Static p i) = 1
  place_stack (place.Field' p q e i) = expr_stack e
  place_stack (place.Element' p n q e f r i) = max (expr_stack e) (suc (expr_stack i))
  place_stack (place.StaticElement' p n i q e) = suc (expr_stack e)

  -- a link, with what is on its left
  pub link_stack : Link → ℕ
  link_stack (link.Binary b e) = suc (expr_stack e)
  link_stack (link.And e) = max 1 (expr_stack e)
  link_stack (link.Or e) = max 1 (expr_stack e)
  link_stack (link.Element p n i e) = suc (expr_stack e)
  link_stack (link.Byte i e) = suc (expr_stack e)
  link_stack (link.Invoke' k m shape args) = suc (exprs_stack args)
  link_stack (link.TextCall' call shape args) = suc (exprs_stack args)
  link_stack (link.After e) = max 1 (expr_stack e)
  link_stack l = 1

  -- one above the other
  pub exprs_stack : {n : _} → Row_of-Expr n → ℕ
  exprs_stack end_of-Expr = 0
  exprs_stack (more_of-Expr e es) = max (expr_stack e) (suc (exprs_stack es))

  pub links_stack : {n : _} → Row_of-Link n → ℕ
  links_stack end_of-Link = 0
  links_stack (more_of-Link l ls) = max (link_stack l) (links_stack ls)

-- a part that may be missing has one value at most where it is
abbrev pub part_stack : Option Expr → ℕ
part_stack None = 1
part_stack (Some e) = expr_stack e

-- the tests of a `switch` have two
abbrev mutual
  pub stmt_stack : Stmt → ℕ
  stmt_stack (stmt.Do e) = expr_stack e
  stmt_stack (stmt.Local k i e) = part_stack e
  stmt_stack (stmt.Block' shape all) = stmts_stack all
  stmt_stack (stmt.If' t p a q b) = max (expr_stack t) (max (stmt_stack a) (stmt_stack b))
  stmt_stack (stmt.While' t p body) = max (stmt_stack body) (expr_stack t)
  stmt_stack (stmt.DoWhile' p body t) = max (stmt_stack body) (expr_stack t)
  stmt_stack (stmt.For' p first t last q body) =
      max (max (stmt_stack first) (stmt_stack body)) (max (part_stack last) (part_stack t))
  stmt_stack (stmt.Switch' e labels shape all) = max (max 2 (expr_stack e)) (stmts_stack all)
  stmt_stack (stmt.Return e) = part_stack e
  stmt_stack s = 0

  pub stmts_stack : {n : _} → Row_of-Stmt n → ℕ
  stmts_stack end_of-Stmt = 0
  stmts_stack (more_of-Stmt s ss) = max (stmt_stack s) (stmts_stack ss)

-- 0, false or null is answered behind a body
abbrev pub body_stack : Option Stmt → ℕ
body_stack None = 0
body_stack (Some body) = max 1 (stmt_stack body)
