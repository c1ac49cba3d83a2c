-- What typed statements keep.
use Rattle.std.specs.Prelude.{ℕ, suc, ◌≡◌, ◌≤◌, ℤ, Bool, true, false, List, length, count_by, slice_get, Option, Some}
use Rattle.std.specs.Prelude.{None}
use Rattle.std.specs.Ordering.{int_eq}
use Rattle.sed_typed.specs.declared.kind.Kind.{Kind}
use Rattle.sed_typed.specs.declared.kind.Kind.TheVariants as kind
use Rattle.sed_typed.specs.declared.statement.Label.{Label}
use Rattle.sed_typed.specs.declared.statement.Label.TheVariants.{Case, Default}
use Rattle.sed_typed.specs.declared.statement.Stmt.{Stmt, Row_of-Stmt, end_of-Stmt, more_of-Stmt}
use Rattle.sed_typed.specs.declared.statement.Stmt.TheVariants as stmt
use Rattle.sed_typed.specs.declared.tree.Expr.{Expr}
use Rattle.sed_typed.specs.Kinds.{kind_of}
use Rattle.sed_typed.specs.TypedExpr.{Context, IsExpr, IsNoReceiver, GoesTo}

-- what a statement stands in: `break` needs a loop or a switch, `continue` a loop
pub record Around : Type 0 where
  pub breaks : Bool
  pub continues : Bool

abbrev pub in_loop : Around
in_loop = record { breaks = true; continues = true }

abbrev pub in_switch : Around → Around
in_switch around = record { breaks = true; continues = around.continues }

abbrev pub IsCondition : Context → Expr → Type 0
IsCondition c e = IsExpr c e × (kind_of e ≡ kind.Bool)

-- a part of a `for` that may be missing
abbrev pub IsTest : Context → Option Expr → Type 0
IsTest c None = Unit {0}
IsTest c (Some e) = IsCondition c e

abbrev pub IsLast : Context → Option Expr → Type 0
IsLast c None = Unit {0}
IsLast c (Some e) = IsExpr c e

-- a local begins with a value that goes to it
abbrev pub IsBegun : Context → Kind → Option Expr → Type 0
IsBegun c k None = Unit {0}
IsBegun c k (Some e) = IsExpr c e × GoesTo c.program (kind_of e) k

-- a value is returned exactly where the method has a result
abbrev pub IsReturned : Context → Option Expr → Type 0
IsReturned c None = c.result ≡ kind.Void
IsReturned c (Some e) = IsExpr c e × (GoesTo c.program (kind_of e) c.result) × (c.result ≡ kind.Void → ⊥)

abbrev pub same_label : ℤ → Label → Bool
same_label n (Case m) = int_eq n m
same_label n Default = false

abbrev pub is_default : Label → Bool
is_default (Case m) = false
is_default Default = true

-- Each case once, and one default at most. A case has 32 bits by its type, in whatever statement a value holds, so
-- nothing is asked of its number here.
pub record AreLabels (labels : List Label) : Type 0 where
  pub cases : (n : ℤ) → count_by (same_label n) labels ≤ 1
  pub default : count_by is_default labels ≤ 1

abbrev pub row_length : {n : _} → Row_of-Stmt n → ℕ
row_length end_of-Stmt = 0
row_length (more_of-Stmt x xs) = suc (row_length xs)

-- the first part of a `for`: nothing, a local or an expression
abbrev pub IsFirst : Stmt → Type 0
IsFirst stmt.Empty = Unit {0}
IsFirst (stmt.Do e) = Unit {0}
IsFirst (stmt.Local k i e) = Unit {0}
IsFirst x = ⊥

abbrev mutual
  pub IsStmt : Context → Around → Stmt → Type 0
  IsStmt c around stmt.Empty = Unit {0}
  IsStmt c around (stmt.Do e) = IsExpr c e
  IsStmt c around (stmt.Local k i e) = (slice_get c.locals i ≡ Some k) × IsBegun c k e × IsNoReceiver c i
  IsStmt c around (stmt.Block' shape all) = AreStmts c around all
  IsStmt c around (stmt.If' t p a q b) = IsCondition c t × IsStmt c around a × IsStmt c around b
  IsStmt c around (stmt.While' t p body) = IsCondition c t × IsStmt c in_loop body
  IsStmt c around (stmt.DoWhile' p body t) = IsStmt c in_loop body × IsCondition c t
  IsStmt c around (stmt.For' p first t last q body) = IsFirst first
      × IsStmt c around first × IsTest c t × IsLast c last × IsStmt c in_loop body
  IsStmt c around (stmt.Switch' e labels shape all) =
      IsExpr c e × (kind_of e ≡ kind.Int) × AreLabels labels.items × (length labels.items ≡ row_length all)
      × AreStmts c (in_switch around) all
  IsStmt c around stmt.Break = around.breaks ≡ true
  IsStmt c around stmt.Continue = around.continues ≡ true
  IsStmt c around (stmt.Return e) = IsReturned c e

  pub AreStmts : {n : _} → Context → Around → Row_of-Stmt n → Type 0
  AreStmts c around end_of-Stmt = Unit {0}
  AreStmts c around (more_of-Stmt x xs) = IsStmt c around x × AreStmts c around xs
