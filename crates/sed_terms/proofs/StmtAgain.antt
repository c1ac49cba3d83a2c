-- A statement is typed where its term is.
use Rattle.std.proofs.Common.{◌≡◌, suc, List, [], ◌∷◌, length, Option, Some, None, refl, sym, ap, ◌∙◌, subst}
use mathlib.Core.Former.{Count}
use Rattle.sed_typed.specs.declared.kind.Kind.{Kind}
use Rattle.sed_typed.specs.declared.kind.Kind.TheVariants as kind
use Rattle.sed_typed.specs.declared.statement.Label.{Label}
use Rattle.sed_typed.specs.declared.statement.Stmt.{Stmt, Row_of-Stmt, end_of-Stmt, more_of-Stmt}
use Rattle.sed_typed.specs.declared.statement.Stmt.TheVariants as stmt
use Rattle.sed_typed.specs.declared.tree.Expr.{Expr, Row_of-Link, end_of-Link, more_of-Link}
use Rattle.sed_typed.specs.declared.tree.Expr.TheVariants as expr
use Rattle.sed_typed.specs.declared.tree.Link.{Link}
use Rattle.sed_typed.specs.declared.tree.Link.TheVariants as link
use Rattle.sed_typed.specs.TypedExpr.{Context, GoesTo}
use Rattle.sed_typed.specs.TypedStmt.{Around, in_loop, in_switch, IsStmt, AreStmts, IsBegun, IsReturned, IsCondition, IsTest, IsLast, IsFirst, AreLabels, row_length}
use Rattle.sed_terms.specs.Term.{Term, Absent, Node}
use Rattle.sed_terms.specs.Sorts.{term_kind}
use Rattle.sed_terms.specs.Seen.{term_of, link_term, term_after, optional_term, stmt_term, stmts_term, cases_term}
use Rattle.sed_terms.specs.TypedTerm.{IsTerm}
use Rattle.sed_terms.specs.TypedStmtTerm.{IsTermCondition, IsTermTest, IsTermLast, IsTermBegun, IsTermReturned, IsTermFirst, IsStmtTerm, AreStmtTerms, AreCaseTerms, labels_of}
use Rattle.sed_terms.proofs.Again.{kind_again, expr_again, goes_again}

-- ---- the term of an expression is a node

abbrev pub IsNode : Term → Type 0
IsNode Absent = ⊥
IsNode (Node s a b) = Unit {0}

link_node : (t : Term) (l : Link) → IsNode (link_term t l)
link_node t (link.Binary op e) = tt
link_node t (link.And e) = tt
link_node t (link.Or e) = tt
link_node t (link.Field p i) = tt
link_node t (link.Part k i) = tt
link_node t (link.Element p n i e) = tt
link_node t (link.Size i) = tt
link_node t (link.Byte i e) = tt
link_node t (link.Invoke' k m shape args) = tt
link_node t (link.TextCall' op shape args) = tt
link_node t (link.After e) = tt

after_node : {n : Count} (t : Term) (ls : Row_of-Link n) → IsNode t → IsNode (term_after t ls)
after_node t end_of-Link h = h
after_node t (more_of-Link l ls) h = after_node (link_term t l) ls (link_node t l)

pub is_node : (e : Expr) → IsNode (term_of e)
is_node (expr.Chain' p e shape links) = after_node (term_of e) links (is_node e)
is_node (expr.StaticElement' p n i q e) = tt
is_node (expr.Unary' op p e) = tt
is_node (expr.Choose' p t q a r b) = tt
is_node (expr.Set' target p e) = tt
is_node (expr.Update' u target p e) = tt
is_node (expr.Call' k m shape args) = tt
is_node (expr.Super' k m shape args) = tt
is_node e = tt

-- ---- parts that may be missing

condition_again : (c : Context) (e : Expr) → IsTermCondition c (term_of e) → IsCondition c e
condition_again c e h = (expr_again c e h.0, sym (kind_again e) ∙ h.1)

test_at : (c : Context) (t : Term) → IsNode t → IsTermTest c t → IsTermCondition c t
test_at c Absent h g = absurd h
test_at c (Node s a b) h g = g

test_again : (c : Context) (e : Option Expr) → IsTermTest c (optional_term e) → IsTest c e
test_again c None h = tt
test_again c (Some e) h = condition_again c e (test_at c (term_of e) (is_node e) h)

last_at : (c : Context) (t : Term) → IsNode t → IsTermLast c t → IsTerm c t
last_at c Absent h g = absurd h
last_at c (Node s a b) h g = g

last_again : (c : Context) (e : Option Expr) → IsTermLast c (optional_term e) → IsLast c e
last_again c None h = tt
last_again c (Some e) h = expr_again c e (last_at c (term_of e) (is_node e) h)

begun_at : (c : Context) (k : Kind) (t : Term) → IsNode t → IsTermBegun c k t → IsTerm c t × GoesTo c.program (term_kind t) k
begun_at c k Absent h g = absurd h
begun_at c k (Node s a b) h g = g

begun_again : (c : Context) (k : Kind) (e : Option Expr) → IsTermBegun c k (optional_term e) → IsBegun c k e
begun_again c k None h = tt
begun_again c k (Some e) h =
    let g = begun_at c k (term_of e) (is_node e) h in (expr_again c e g.0, goes_again c.program (kind_again e) refl g.1)

returned_at : (c : Context) (t : Term) → IsNode t → IsTermReturned c t →
    IsTerm c t × GoesTo c.program (term_kind t) c.result × (c.result ≡ kind.Void → ⊥)
returned_at c Absent h g = absurd h
returned_at c (Node s a b) h g = g

returned_again : (c : Context) (e : Option Expr) → IsTermReturned c (optional_term e) → IsReturned c e
returned_again c None h = h
returned_again c (Some e) h =
    let g = returned_at c (term_of e) (is_node e) h in (expr_again c e g.0, goes_again c.program (kind_again e) refl g.1, g.2)

first_again : (s : Stmt) → IsTermFirst (stmt_term s) → IsFirst s
first_again stmt.Empty h = tt
first_again (stmt.Do e) h = tt
first_again (stmt.Local k i e) h = tt
first_again (stmt.Block' shape all) h = absurd h
first_again (stmt.If' t p a q b) h = absurd h
first_again (stmt.While' t p body) h = absurd h
first_again (stmt.DoWhile' p body t) h = absurd h
first_again (stmt.For' p first t last q body) h = absurd h
first_again (stmt.Switch' e labels shape all) h = absurd h
first_again stmt.Break h = absurd h
first_again stmt.Continue h = absurd h
first_again (stmt.Return e) h = absurd h

-- ---- labels

labels_again : (c : Context) (around : Around) {n : Count} (ls : List Label) (all : Row_of-Stmt n) → AreCaseTerms c around (cases_term ls all) →
    (labels_of (cases_term ls all) ≡ ls) × (length ls ≡ row_length all)
labels_again c around [] end_of-Stmt h = (refl, refl)
labels_again c around [] (more_of-Stmt x xs) h = absurd h
labels_again c around (l ∷ ls) end_of-Stmt h = absurd h.0
labels_again c around (l ∷ ls) (more_of-Stmt x xs) h =
    let r = labels_again c around ls xs h.1 in (ap (λ ms. l ∷ ms) r.0, ap suc r.1)

-- ---- statements

mutual
  pub stmt_again : (c : Context) (around : Around) (s : Stmt) → IsStmtTerm c around (stmt_term s) → IsStmt c around s
  stmt_again c around stmt.Empty h = tt
  stmt_again c around (stmt.Do e) h = expr_again c e h
  stmt_again c around (stmt.Local k i e) h = (h.0, begun_again c k e h.1, h.2)
  stmt_again c around (stmt.Block' shape all) h = stmts_again c around all h
  stmt_again c around (stmt.If' t p a q b) h = (condition_again c t h.0, stmt_again c around a h.1, stmt_again c around b h.2)
  stmt_again c around (stmt.While' t p body) h = (condition_again c t h.0, stmt_again c in_loop body h.1)
  stmt_again c around (stmt.DoWhile' p body t) h = (stmt_again c in_loop body h.0, condition_again c t h.1)
  stmt_again c around (stmt.For' p first t last q body) h =
      (first_again first h.0, stmt_again c around first h.1, test_again c t h.2, last_again c last h.3, stmt_again c in_loop body h.4)
  stmt_again c around (stmt.Switch' e labels shape all) h =
      let r = labels_again c (in_switch around) labels.items all h.3 in
      (expr_again c e h.0, sym (kind_again e) ∙ h.1, subst AreLabels r.0 h.2, r.1, cases_again c (in_switch around) labels.items all h.3)
  stmt_again c around stmt.Break h = h
  stmt_again c around stmt.Continue h = h
  stmt_again c around (stmt.Return e) h = returned_again c e h

  stmts_again : (c : Context) (around : Around) {n : Count} (all : Row_of-Stmt n) → AreStmtTerms c around (stmts_term all) → AreStmts c around all
  stmts_again c around end_of-Stmt h = tt
  stmts_again c around (more_of-Stmt x xs) h = (stmt_again c around x h.0, stmts_again c around xs h.1)

  cases_again : (c : Context) (around : Around) {n : Count} (ls : List Label) (all : Row_of-Stmt n) → AreCaseTerms c around (cases_term ls all) →
      AreStmts c around all
  cases_again c around ls end_of-Stmt h = tt
  cases_again c around [] (more_of-Stmt x xs) h = absurd h
  cases_again c around (l ∷ ls) (more_of-Stmt x xs) h = (stmt_again c around x h.0, cases_again c around ls xs h.1)
