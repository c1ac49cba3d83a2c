-- The term of an expression, a place or a statement.
use Rattle.std.specs.Prelude.{List, [], ◌∷◌, Option, Some, None}
use Rattle.sed_typed.specs.declared.operators.Gives.{Gives}
use Rattle.sed_typed.specs.declared.operators.Gives.TheVariants.{Old, New}
use Rattle.sed_typed.specs.declared.statement.Label.{Label}
use Rattle.sed_typed.specs.declared.statement.Stmt.{Stmt, Row_of-Stmt, end_of-Stmt, more_of-Stmt}
use Rattle.sed_typed.specs.declared.statement.Stmt.TheVariants as stmt
use Rattle.sed_typed.specs.declared.tree.Expr.{Expr, Row_of-Expr, end_of-Expr, more_of-Expr, Row_of-Link, end_of-Link}
use Rattle.sed_typed.specs.declared.tree.Expr.{more_of-Link}
use Rattle.sed_typed.specs.declared.tree.Expr.TheVariants as expr
use Rattle.sed_typed.specs.declared.tree.Link.{Link}
use Rattle.sed_typed.specs.declared.tree.Link.TheVariants as link
use Rattle.sed_typed.specs.declared.tree.Place.{Place}
use Rattle.sed_typed.specs.declared.tree.Place.TheVariants as place
use Rattle.sed_terms.specs.declared.sign.Sign.TheVariants as sign
use Rattle.sed_terms.specs.Term.{Term, Absent, Node, leaf}

-- The operand of an assignment that computes. That of `x++` and `x--` is a number that the source does not write: there
-- one that is no literal is no term of its own.
abbrev pub literal_operand : Expr → Term → Term
literal_operand (expr.Int n) t = t
literal_operand (expr.Long n) t = t
literal_operand e t = Node sign.Pair t Absent

abbrev pub operand_term : Gives → Expr → Term → Term
operand_term Old e t = literal_operand e t
operand_term New e t = t

-- a place is seen as the expression that reads it
abbrev mutual
  pub term_of : Expr → Term
  term_of (expr.Int n) = leaf (sign.Int n)
  term_of (expr.Long n) = leaf (sign.Long n)
  term_of (expr.Bool t) = leaf (sign.Bool t)
  term_of (expr.Null k) = leaf (sign.Null k)
  term_of (expr.Text n) = leaf (sign.Text n)
  term_of (expr.This class) = leaf (sign.This class)
  term_of (expr.Local k i) = leaf (sign.Local k i)
  term_of (expr.Static p i) = leaf (sign.Static p i)
  term_of (expr.StaticPart k i) = leaf (sign.StaticPart k i)
  term_of (expr.StaticElement' p n i q e) = Node (sign.StaticElement p n i) (term_of e) Absent
  term_of expr.Ticks = leaf sign.Ticks
  term_of (expr.Unary' op p e) = Node (sign.Unary op) (term_of e) Absent
  term_of (expr.Choose' p t q a r b) = Node sign.Choose (term_of t) (Node sign.Pair (term_of a) (term_of b))
  term_of (expr.Set' target p e) = Node sign.Set (place_term target) (term_of e)
  term_of (expr.Update' u target p e) = Node (sign.Update u) (place_term target) (operand_term u.gives e (term_of e))
  term_of (expr.Call' k m shape args) = Node (sign.Call k m) (args_term args) Absent
  term_of (expr.Super' k m shape args) = Node (sign.Super k m) (args_term args) Absent
  term_of (expr.Chain' p e shape links) = term_after (term_of e) links

  pub place_term : Place → Term
  place_term (place.Local k i) = leaf (sign.Local k i)
  place_term (place.Static p i) = leaf (sign.Static p i)
  place_term (place.Field' p q e i) = Node (sign.Field p i) (term_of e) Absent
  place_term (place.Element' p n q e f r i) = Node (sign.Element p n f) (term_of e) (term_of i)
  place_term (place.StaticElement' p n i q e) = Node (sign.StaticElement p n i) (term_of e) Absent

  -- a link around what is on its left
  pub link_term : Term → Link → Term
  link_term t (link.Binary op e) = Node (sign.Binary op) t (term_of e)
  link_term t (link.And e) = Node sign.And t (term_of e)
  link_term t (link.Or e) = Node sign.Or t (term_of e)
  link_term t (link.Field p i) = Node (sign.Field p i) t Absent
  link_term t (link.Part k i) = Node (sign.Part k i) t Absent
  link_term t (link.Element p n i e) = Node (sign.Element p n i) t (term_of e)
  link_term t (link.Size i) = Node (sign.Size i) t Absent
  link_term t (link.Byte i e) = Node (sign.Byte i) t (term_of e)
  link_term t (link.Invoke' k m shape args) = Node (sign.Invoke k m) t (args_term args)
  link_term t (link.TextCall' op shape args) = Node (sign.TextCall op) t (args_term args)
  link_term t (link.After e) = Node sign.After t (term_of e)

  pub term_after : {n : _} → Term → Row_of-Link n → Term
  term_after t end_of-Link = t
  term_after t (more_of-Link l ls) = term_after (link_term t l) ls

  pub args_term : {n : _} → Row_of-Expr n → Term
  args_term end_of-Expr = Absent
  args_term (more_of-Expr e es) = Node sign.More (term_of e) (args_term es)

-- a part that may be missing
abbrev pub optional_term : Option Expr → Term
optional_term None = Absent
optional_term (Some e) = term_of e

abbrev mutual
  pub stmt_term : Stmt → Term
  stmt_term stmt.Empty = leaf sign.Empty
  stmt_term (stmt.Do e) = Node sign.Do (term_of e) Absent
  stmt_term (stmt.Local k i e) = Node (sign.Begin k i) (optional_term e) Absent
  stmt_term (stmt.Block' shape all) = Node sign.Block (stmts_term all) Absent
  stmt_term (stmt.If' t p a q b) = Node sign.If (term_of t) (Node sign.Pair (stmt_term a) (stmt_term b))
  stmt_term (stmt.While' t p body) = Node sign.While (term_of t) (stmt_term body)
  stmt_term (stmt.DoWhile' p body t) = Node sign.DoWhile (stmt_term body) (term_of t)
  stmt_term (stmt.For' p first t last q body) =
      Node sign.For (Node sign.Pair (stmt_term first) (Node sign.Pair (optional_term t) (optional_term last)))
      (stmt_term body)
  stmt_term (stmt.Switch' e labels shape all) = Node sign.Switch (term_of e) (cases_term labels.items all)
  stmt_term stmt.Break = leaf sign.Break
  stmt_term stmt.Continue = leaf sign.Continue
  stmt_term (stmt.Return e) = Node sign.Return (optional_term e) Absent

  pub stmts_term : {n : _} → Row_of-Stmt n → Term
  stmts_term end_of-Stmt = Absent
  stmts_term (more_of-Stmt x xs) = Node sign.More (stmt_term x) (stmts_term xs)

  -- Each label with the block behind it. A label without a block has nothing in its place, and a block without a label
  -- stands as an item.
  pub cases_term : {n : _} → List Label → Row_of-Stmt n → Term
  cases_term [] end_of-Stmt = Absent
  cases_term [] (more_of-Stmt x xs) = Node sign.More (stmt_term x) (cases_term [] xs)
  cases_term (l ∷ ls) end_of-Stmt = Node (sign.Label l) Absent (cases_term ls end_of-Stmt)
  cases_term (l ∷ ls) (more_of-Stmt x xs) = Node (sign.Label l) (stmt_term x) (cases_term ls xs)
