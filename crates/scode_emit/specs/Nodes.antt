-- How many statements, expressions and case labels a body has together.
--
-- Each link of a chain is an expression: what is made of the value on its left. A tree also has what no source need
-- write, and this is not counted: the receiver of what is a field or a method of `this`, the widening of an int, an
-- empty statement.
use Rattle.std.specs.Prelude.{ℕ, suc, ◌+◌, Bool, true, false, if◌then◌else◌, List, [], ◌∷◌, Option, Some, None}
use Rattle.sed_typed.specs.declared.operators.Unary.{Unary}
use Rattle.sed_typed.specs.declared.operators.Unary.TheVariants as unary
use Rattle.sed_typed.specs.declared.statement.Label.{Label}
use Rattle.sed_typed.specs.declared.statement.Label.TheVariants.{Case, Default}
use Rattle.sed_typed.specs.declared.statement.Stmt.{Stmt, Row_of-Stmt, end_of-Stmt, more_of-Stmt}
use Rattle.sed_typed.specs.declared.statement.Stmt.TheVariants as stmt
use Rattle.sed_typed.specs.declared.tree.Place.{Place}
use Rattle.sed_typed.specs.declared.tree.Place.TheVariants as place
use Rattle.sed_typed.specs.declared.tree.Expr.{Expr, Row_of-Expr, end_of-Expr, more_of-Expr, Row_of-Link, end_of-Link}
use Rattle.sed_typed.specs.declared.tree.Expr.{more_of-Link}
use Rattle.sed_typed.specs.declared.tree.Expr.TheVariants as expr
use Rattle.sed_typed.specs.declared.tree.Link.{Link}
use Rattle.sed_typed.specs.declared.tree.Link.TheVariants as link

abbrev pub is_this : Expr → Bool
is_this (expr.This class) = true
is_this e = false

abbrev pub is_widened : Expr → Bool
is_widened (expr.Unary' unary.ToLong p e) = true
is_widened e = false

-- An operator is one; an int that is widened is not one more, if it is widened once.
abbrev pub operators : Unary → Expr → ℕ
operators unary.ToLong e = if is_widened e then 1 else 0
operators u e = 1

abbrev mutual
  pub expr_nodes : Expr → ℕ
  expr_nodes (expr.StaticElement' p n i q e) = suc (expr_nodes e)
  expr_nodes (expr.Unary' u p e) = operators u e + expr_nodes e
  expr_nodes (expr.Choose' p t q a r b) = suc (expr_nodes t + expr_nodes a + expr_nodes b)
  expr_nodes (expr.Set' target p e) = suc (place_nodes target + expr_nodes e)
  expr_nodes (expr.Update' u target p e) = suc (place_nodes target + expr_nodes e)
  expr_nodes (expr.Call' k m shape args) = suc (exprs_nodes args)
  expr_nodes (expr.Super' k m shape args) = suc (exprs_nodes args)
  expr_nodes (expr.Chain' p e shape links) =
      chain_nodes (expr_nodes e) (if is_this e then 0 else expr_nodes e) links
  expr_nodes e = 1

  -- the object and the index of what is assigned to
  pub place_nodes : Place → ℕ
  place_nodes (place.Local k i) = 0
  place_nodes (place.Static p i) = 0
  place_nodes (place.Field' p q e i) = if is_this e then 0 else expr_nodes e
  place_nodes (place.Element' p n q e f r i) = (if is_this e then 0 else expr_nodes e) + expr_nodes i
  place_nodes (place.StaticElement' p n i q e) = expr_nodes e

  pub link_nodes : Link → ℕ
  link_nodes (link.Binary b e) = suc (expr_nodes e)
  link_nodes (link.And e) = suc (expr_nodes e)
  link_nodes (link.Or e) = suc (expr_nodes e)
  link_nodes (link.Field p i) = 1
  link_nodes (link.Part part i) = 1
  link_nodes (link.Element p n i e) = suc (expr_nodes e)
  link_nodes (link.Size i) = 1
  link_nodes (link.Byte i e) = suc (expr_nodes e)
  link_nodes (link.Invoke' k m shape args) = suc (exprs_nodes args)
  link_nodes (link.TextCall' call shape args) = suc (exprs_nodes args)
  link_nodes (link.After e) = suc (expr_nodes e)

  pub exprs_nodes : {n : _} → Row_of-Expr n → ℕ
  exprs_nodes end_of-Expr = 0
  exprs_nodes (more_of-Expr e es) = expr_nodes e + exprs_nodes es

  -- links behind an operand, which alone has so many, and before a link so many
  pub chain_nodes : {n : _} → ℕ → ℕ → Row_of-Link n → ℕ
  chain_nodes alone before end_of-Link = suc alone
  chain_nodes alone before (more_of-Link l ls) = before + link_nodes l + links_nodes ls

  pub links_nodes : {n : _} → Row_of-Link n → ℕ
  links_nodes end_of-Link = 0
  links_nodes (more_of-Link l ls) = link_nodes l + links_nodes ls

abbrev pub part_nodes : Option Expr → ℕ
part_nodes None = 0
part_nodes (Some e) = expr_nodes e

abbrev pub case_nodes : List Label → ℕ
case_nodes [] = 0
case_nodes (Case c ∷ labels) = suc (case_nodes labels)
case_nodes (Default ∷ labels) = case_nodes labels

abbrev mutual
  pub stmt_nodes : Stmt → ℕ
  stmt_nodes stmt.Empty = 0
  stmt_nodes (stmt.Do e) = suc (expr_nodes e)
  stmt_nodes (stmt.Local k i e) = suc (part_nodes e)
  stmt_nodes (stmt.Block' shape all) = suc (stmts_nodes all)
  stmt_nodes (stmt.If' t p a q b) = suc (expr_nodes t + stmt_nodes a + stmt_nodes b)
  stmt_nodes (stmt.While' t p body) = suc (expr_nodes t + stmt_nodes body)
  stmt_nodes (stmt.DoWhile' p body t) = suc (expr_nodes t + stmt_nodes body)
  stmt_nodes (stmt.For' p first t last q body) =
      suc (stmt_nodes first + part_nodes t + part_nodes last + stmt_nodes body)
  stmt_nodes (stmt.Switch' e labels shape all) = suc (expr_nodes e + case_nodes labels.items + stmts_nodes all)
  stmt_nodes stmt.Break = 1
  stmt_nodes stmt.Continue = 1
  stmt_nodes (stmt.Return e) = suc (part_nodes e)

  pub stmts_nodes : {n : _} → Row_of-Stmt n → ℕ
  stmts_nodes end_of-Stmt = 0
  stmts_nodes (more_of-Stmt s ss) = stmt_nodes s + stmts_nodes ss

abbrev pub body_nodes : Option Stmt → ℕ
body_nodes None = 0
body_nodes (Some body) = stmt_nodes body
