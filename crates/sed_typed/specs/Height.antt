-- How high trees are: how many expressions and statements stand one in the other, each counted, whether the grammar
-- counts it as nesting or not. The head of a chain, the operands of its links, the parts of a place, and arguments
-- stand in an expression.
use Rattle.std.specs.Prelude.{ℕ, suc, max, Option, Some, None}
use Rattle.sed_typed.specs.declared.statement.Stmt.{Stmt, Row_of-Stmt, end_of-Stmt, more_of-Stmt}
use Rattle.sed_typed.specs.declared.statement.Stmt.TheVariants as stmt
use Rattle.sed_typed.specs.declared.tree.Place.{Place}
use Rattle.sed_typed.specs.declared.tree.Place.TheVariants as place
use Rattle.sed_typed.specs.declared.tree.Expr.{Expr, Row_of-Expr, end_of-Expr, more_of-Expr, Row_of-Link, end_of-Link}
use Rattle.sed_typed.specs.declared.tree.Expr.{more_of-Link}
use Rattle.sed_typed.specs.declared.tree.Expr.TheVariants as expr
use Rattle.sed_typed.specs.declared.tree.Link.{Link}
use Rattle.sed_typed.specs.declared.tree.Link.TheVariants as link

abbrev mutual
  pub height_of : Expr → ℕ
  height_of (expr.StaticElement' p n i q e) = suc (height_of e)
  height_of (expr.Unary' op p e) = suc (height_of e)
  height_of (expr.Choose' p t q a r b) = suc (max (height_of t) (max (height_of a) (height_of b)))
  height_of (expr.Set' target p e) = suc (max (place_height target) (height_of e))
  height_of (expr.Update' u target p e) = suc (max (place_height target) (height_of e))
  height_of (expr.Call' k m shape args) = suc (heights_of args)
  height_of (expr.Super' k m shape args) = suc (heights_of args)
  height_of (expr.Chain' p e shape links) = suc (max (height_of e) (links_height links))
  height_of e = 1

  -- the parts of a place
  pub place_height : Place → ℕ
  place_height (place.Local k i) = 0
  place_height (place.Static p i) = 0
  place_height (place.Field' p q e i) = height_of e
  place_height (place.Element' p n q e f r i) = max (height_of e) (height_of i)
  place_height (place.StaticElement' p n i q e) = height_of e

  -- the operands of a link
  pub link_height : Link → ℕ
  link_height (link.Binary op e) = height_of e
  link_height (link.And e) = height_of e
  link_height (link.Or e) = height_of e
  link_height (link.Element p n i e) = height_of e
  link_height (link.Byte i e) = height_of e
  link_height (link.Invoke' k m shape args) = heights_of args
  link_height (link.TextCall' op shape args) = heights_of args
  link_height (link.After e) = height_of e
  link_height l = 0

  pub heights_of : {n : _} → Row_of-Expr n → ℕ
  heights_of end_of-Expr = 0
  heights_of (more_of-Expr e es) = max (height_of e) (heights_of es)

  pub links_height : {n : _} → Row_of-Link n → ℕ
  links_height end_of-Link = 0
  links_height (more_of-Link l ls) = max (link_height l) (links_height ls)

abbrev pub height_or : Option Expr → ℕ
height_or None = 0
height_or (Some e) = height_of e

abbrev mutual
  pub stmt_height : Stmt → ℕ
  stmt_height (stmt.Do e) = suc (height_of e)
  stmt_height (stmt.Local k i e) = suc (height_or e)
  stmt_height (stmt.Block' shape all) = suc (stmts_height all)
  stmt_height (stmt.If' t p a q b) = suc (max (height_of t) (max (stmt_height a) (stmt_height b)))
  stmt_height (stmt.While' t p body) = suc (max (height_of t) (stmt_height body))
  stmt_height (stmt.DoWhile' p body t) = suc (max (height_of t) (stmt_height body))
  stmt_height (stmt.For' p first t last q body) =
      suc (max (max (stmt_height first) (max (height_or t) (height_or last))) (stmt_height body))
  stmt_height (stmt.Switch' e labels shape all) = suc (max (height_of e) (stmts_height all))
  stmt_height (stmt.Return e) = suc (height_or e)
  stmt_height x = 1

  pub stmts_height : {n : _} → Row_of-Stmt n → ℕ
  stmts_height end_of-Stmt = 0
  stmts_height (more_of-Stmt x xs) = max (stmt_height x) (stmts_height xs)
