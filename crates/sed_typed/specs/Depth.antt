-- How deep trees nest, as the grammar of the language counts it, by which at most 64 constructs are open at a place.
-- Links of a chain stand beside one another, and so do the statements of a method's own body. Neither these nor an
-- empty block open anything.
use Rattle.std.specs.Prelude.{ℕ, suc, max, Option, Some, None}
use Rattle.sed_typed.specs.declared.operators.Unary.{Unary}
use Rattle.sed_typed.specs.declared.operators.Unary.TheVariants as unary
use Rattle.sed_typed.specs.declared.operators.Gives.{Gives}
use Rattle.sed_typed.specs.declared.operators.Gives.TheVariants.{Old, New}
use Rattle.sed_typed.specs.declared.statement.Stmt.{Stmt, Row_of-Stmt, end_of-Stmt, more_of-Stmt}
use Rattle.sed_typed.specs.declared.statement.Stmt.TheVariants as stmt
use Rattle.sed_typed.specs.declared.tree.Place.{Place}
use Rattle.sed_typed.specs.declared.tree.Place.TheVariants as place
use Rattle.sed_typed.specs.declared.tree.Expr.{Expr, Row_of-Expr, end_of-Expr, more_of-Expr, Row_of-Link, end_of-Link}
use Rattle.sed_typed.specs.declared.tree.Expr.{more_of-Link}
use Rattle.sed_typed.specs.declared.tree.Expr.TheVariants as expr
use Rattle.sed_typed.specs.declared.tree.Link.{Link}
use Rattle.sed_typed.specs.declared.tree.Link.TheVariants as link

-- A prefix operator or a cast nests. An int goes to a long by itself too, so that is not counted.
abbrev pub unary_depth : Unary → ℕ → ℕ
unary_depth unary.ToLong depth = depth
unary_depth op depth = suc depth

-- The value of `op=` nests. `x++` and `x--` have none in the source.
abbrev pub value_depth : Gives → ℕ → ℕ
value_depth Old depth = depth
value_depth New depth = suc depth

-- prefix operators, casts, the right sides of assignments, the branches of `? :`, arguments and brackets nest
abbrev mutual
  pub depth_of : Expr → ℕ
  depth_of (expr.StaticElement' p n i q e) = suc (depth_of e)
  depth_of (expr.Unary' op p e) = unary_depth op (depth_of e)
  depth_of (expr.Choose' p t q a r b) = max (depth_of t) (suc (max (depth_of a) (depth_of b)))
  depth_of (expr.Set' target p e) = max (place_depth target) (suc (depth_of e))
  depth_of (expr.Update' u target p e) = max (place_depth target) (value_depth u.gives (depth_of e))
  depth_of (expr.Call' k m shape args) = depths_of args
  depth_of (expr.Super' k m shape args) = depths_of args
  depth_of (expr.Chain' p e shape links) = max (depth_of e) (links_depth links)
  depth_of e = 0

  pub place_depth : Place → ℕ
  place_depth (place.Local k i) = 0
  place_depth (place.Static p i) = 0
  place_depth (place.Field' p q e i) = depth_of e
  place_depth (place.Element' p n q e f r i) = max (depth_of e) (suc (depth_of i))
  place_depth (place.StaticElement' p n i q e) = suc (depth_of e)

  pub link_depth : Link → ℕ
  link_depth (link.Binary op e) = depth_of e
  link_depth (link.And e) = depth_of e
  link_depth (link.Or e) = depth_of e
  link_depth (link.Element p n i e) = suc (depth_of e)
  link_depth (link.Byte i e) = suc (depth_of e)
  link_depth (link.Invoke' k m shape args) = depths_of args
  link_depth (link.TextCall' op shape args) = depths_of args
  link_depth (link.After e) = depth_of e
  link_depth l = 0

  pub depths_of : {n : _} → Row_of-Expr n → ℕ
  depths_of end_of-Expr = 0
  depths_of (more_of-Expr e es) = max (suc (depth_of e)) (depths_of es)

  pub links_depth : {n : _} → Row_of-Link n → ℕ
  links_depth end_of-Link = 0
  links_depth (more_of-Link l ls) = max (link_depth l) (links_depth ls)

abbrev pub depth_or : Option Expr → ℕ
depth_or None = 0
depth_or (Some e) = depth_of e

-- A statement within another one nests, and so do the brackets of its head. An absent branch is an empty statement.
abbrev mutual
  pub stmt_depth : Stmt → ℕ
  stmt_depth stmt.Empty = 0
  stmt_depth (stmt.Do e) = depth_of e
  stmt_depth (stmt.Local k i e) = depth_or e
  stmt_depth (stmt.Block' shape all) = block_depth all
  stmt_depth (stmt.If' t p a q b) = suc (max (depth_of t) (max (stmt_depth a) (stmt_depth b)))
  stmt_depth (stmt.While' t p body) = suc (max (depth_of t) (stmt_depth body))
  stmt_depth (stmt.DoWhile' p body t) = suc (max (depth_of t) (stmt_depth body))
  stmt_depth (stmt.For' p first t last q body) =
      suc (max (max (stmt_depth first) (max (depth_or t) (depth_or last))) (stmt_depth body))
  stmt_depth (stmt.Switch' e labels shape all) = suc (max (depth_of e) (cases_depth all))
  stmt_depth stmt.Break = 0
  stmt_depth stmt.Continue = 0
  stmt_depth (stmt.Return e) = depth_or e

  pub stmts_depth : {n : _} → Row_of-Stmt n → ℕ
  stmts_depth end_of-Stmt = 0
  stmts_depth (more_of-Stmt x xs) = max (stmt_depth x) (stmts_depth xs)

  pub block_depth : {n : _} → Row_of-Stmt n → ℕ
  block_depth end_of-Stmt = 0
  block_depth (more_of-Stmt x xs) = suc (max (stmt_depth x) (stmts_depth xs))

  -- the block of a case is not counted
  pub cases_depth : {n : _} → Row_of-Stmt n → ℕ
  cases_depth end_of-Stmt = 0
  cases_depth (more_of-Stmt (stmt.Block' shape all) xs) = max (stmts_depth all) (cases_depth xs)
  cases_depth (more_of-Stmt x xs) = max (stmt_depth x) (cases_depth xs)

-- nor is that of a method's own body
abbrev pub body_depth : Stmt → ℕ
body_depth (stmt.Block' shape all) = stmts_depth all
body_depth x = stmt_depth x
