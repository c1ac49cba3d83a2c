-- How many bytes the code of a tree has. Sizes come before code, so that each jump's place is known where it stands.
use Rattle.std.specs.Prelude.{ℕ, ◌+◌, ◌==◌, if◌then◌else◌, List, [], ◌∷◌, Option, Some, None}
use Rattle.sed_typed.specs.declared.kind.Kind.{Kind}
use Rattle.sed_typed.specs.declared.kind.Kind.TheVariants as kind
use Rattle.sed_typed.specs.declared.statement.Label.{Label}
use Rattle.sed_typed.specs.declared.statement.Label.TheVariants.{Case, Default}
use Rattle.sed_typed.specs.declared.statement.Stmt.{Stmt, Row_of-Stmt, end_of-Stmt, more_of-Stmt}
use Rattle.sed_typed.specs.declared.statement.Stmt.TheVariants as stmt
use Rattle.sed_typed.specs.declared.tree.Place.{Place}
use Rattle.sed_typed.specs.declared.tree.Place.TheVariants as place
use Rattle.sed_typed.specs.declared.tree.Expr.{Expr, Row_of-Expr, end_of-Expr, more_of-Expr, Row_of-Link, end_of-Link}
use Rattle.sed_typed.specs.declared.tree.Expr.{more_of-Link}
use Rattle.sed_typed.specs.declared.tree.Expr.TheVariants as expr
use Rattle.sed_typed.specs.declared.tree.Link.{Link}
use Rattle.sed_typed.specs.declared.tree.Link.TheVariants as link
use Rattle.sed_typed.specs.Kinds.{kind_of, link_kind}
use Rattle.scode_emit.specs.Site.{Site}
use Rattle.scode_emit.specs.Instructions.{unary_size, pop_size, zero_size, invoke_size, storage, put_size, keep_size}
use Rattle.scode_emit.specs.Instructions.{fetch_size, before_size, behind_size}

abbrev mutual
  pub expr_size : Site → Expr → ℕ
  expr_size w (expr.Int n) = 5
  expr_size w (expr.Long n) = 9
  expr_size w (expr.Bool t) = 2
  expr_size w (expr.Null k) = 1
  expr_size w (expr.Text n) = 3
  expr_size w (expr.This class) = 2
  expr_size w (expr.Local k i) = 2
  expr_size w (expr.Static p i) = 4
  expr_size w (expr.StaticPart k i) = 6
  expr_size w (expr.StaticElement' p n i q e) = 1 + expr_size w e + 5
  expr_size w expr.Ticks = 1
  expr_size w (expr.Unary' u p e) = expr_size w e + unary_size u
  expr_size w (expr.Choose' p t q a r b) = expr_size w t + 3 + expr_size w a + 3 + expr_size w b
  expr_size w (expr.Set' target p e) = place_size w target + expr_size w e + keep_size (storage w target)
  expr_size w (expr.Update' u target p e) =
      place_size w target + before_size u.gives (storage w target) + expr_size w e + 1
      + behind_size u.gives (storage w target)
  expr_size w (expr.Call' k m shape args) = exprs_size w args + 3
  expr_size w (expr.Super' k m shape args) = 2 + exprs_size w args + 3
  expr_size w (expr.Chain' p e shape links) = expr_size w e + links_size w (kind_of e) links

  -- what stands on the stack before a value is stored at a place
  pub place_size : Site → Place → ℕ
  place_size w (place.Local k i) = 0
  place_size w (place.Static p i) = 1
  place_size w (place.Field' p q e i) = expr_size w e
  place_size w (place.Element' p n q e f r i) = expr_size w e + expr_size w i
  place_size w (place.StaticElement' p n i q e) = 1 + expr_size w e

  -- a link with the kind of what is on its left
  pub link_size : Site → Kind → Link → ℕ
  link_size w k (link.Binary b e) = expr_size w e + 1
  link_size w k (link.And e) = 3 + expr_size w e + 7
  link_size w k (link.Or e) = 3 + expr_size w e + 7
  link_size w k (link.Field p i) = 3
  link_size w k (link.Part part i) = 5
  link_size w k (link.Element p n i e) = expr_size w e + 5
  link_size w k (link.Size i) = 3
  link_size w k (link.Byte i e) = expr_size w e + 5
  link_size w k (link.Invoke' result m shape args) = exprs_size w args + invoke_size w m
  link_size w k (link.TextCall' call shape args) = exprs_size w args + 1
  link_size w k (link.After e) = pop_size k + expr_size w e

  pub exprs_size : {n : _} → Site → Row_of-Expr n → ℕ
  exprs_size w end_of-Expr = 0
  exprs_size w (more_of-Expr e es) = expr_size w e + exprs_size w es

  pub links_size : {n : _} → Site → Kind → Row_of-Link n → ℕ
  links_size w k end_of-Link = 0
  links_size w k (more_of-Link l ls) = link_size w k l + links_size w (link_kind l) ls

-- an expression whose value is not used: what is assigned is not kept, and another value is taken off
abbrev pub drop_size : Site → Expr → ℕ
drop_size w (expr.Set' target p e) = place_size w target + expr_size w e + put_size (storage w target)
drop_size w (expr.Update' u target p e) =
    place_size w target + fetch_size (storage w target) + expr_size w e + 1 + put_size (storage w target)
drop_size w e = expr_size w e + pop_size (kind_of e)

-- ---- parts that may be missing

-- the first value of a local, which is 0, false or null where none is written
abbrev pub begin_size : Site → Kind → Option Expr → ℕ
begin_size w k None = zero_size k
begin_size w k (Some e) = expr_size w e

-- the condition of a `for`, which is true where none is written, and its last part
abbrev pub test_size : Site → Option Expr → ℕ
test_size w None = 2
test_size w (Some e) = expr_size w e

abbrev pub last_size : Site → Option Expr → ℕ
last_size w None = 0
last_size w (Some e) = drop_size w e

-- ---- statements

-- a jump over so many bytes, which is left out where there are none
abbrev pub over_size : ℕ → ℕ
over_size n = if n == 0 then 0 else 3

-- the tests of a `switch`: a label that is a case has one
abbrev pub tests_size : List Label → ℕ
tests_size [] = 0
tests_size (Case c ∷ labels) = 11 + tests_size labels
tests_size (Default ∷ labels) = tests_size labels

abbrev mutual
  pub stmt_size : Site → Stmt → ℕ
  stmt_size w stmt.Empty = 0
  stmt_size w (stmt.Do e) = drop_size w e
  stmt_size w (stmt.Local k i e) = begin_size w k e + 2
  stmt_size w (stmt.Block' shape all) = stmts_size w all
  stmt_size w (stmt.If' t p a q b) =
      expr_size w t + 3 + stmt_size w a + over_size (stmt_size w b) + stmt_size w b
  stmt_size w (stmt.While' t p body) = 4 + stmt_size w body + expr_size w t + 3
  stmt_size w (stmt.DoWhile' p body t) = 1 + stmt_size w body + expr_size w t + 3
  stmt_size w (stmt.For' p first t last q body) =
      stmt_size w first + 4 + stmt_size w body + last_size w last + test_size w t + 3
  stmt_size w (stmt.Switch' e labels shape all) =
      expr_size w e + 2 + tests_size labels.items + 3 + stmts_size w all
  stmt_size w stmt.Break = 3
  stmt_size w stmt.Continue = 3
  stmt_size w (stmt.Return None) = 1
  stmt_size w (stmt.Return (Some e)) = expr_size w e + 1

  pub stmts_size : {n : _} → Site → Row_of-Stmt n → ℕ
  stmts_size w end_of-Stmt = 0
  stmts_size w (more_of-Stmt s ss) = stmt_size w s + stmts_size w ss

-- ---- methods

-- behind a body: 0, false or null is answered
abbrev pub end_size : Kind → ℕ
end_size kind.Void = 1
end_size k = zero_size k + 1

abbrev pub body_size : Site → Kind → Option Stmt → ℕ
body_size w result None = 0
body_size w result (Some body) = stmt_size w body + end_size result
