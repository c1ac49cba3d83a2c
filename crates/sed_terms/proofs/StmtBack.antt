-- The term of a typed statement is typed.
use Rattle.std.proofs.Common.{◌≡◌, List, [], ◌∷◌, length, Option, Some, None, refl, sym, ap, ◌∙◌, subst, arith}
use mathlib.Core.Former.{Count}
use Rattle.sed_typed.specs.declared.kind.Kind.{Kind}
use Rattle.sed_typed.specs.declared.kind.Kind.TheVariants as kind
use Rattle.sed_typed.specs.declared.statement.Label.{Label}
use Rattle.sed_typed.specs.declared.statement.Stmt.{Stmt, Row_of-Stmt, end_of-Stmt, more_of-Stmt}
use Rattle.sed_typed.specs.declared.statement.Stmt.TheVariants as stmt
use Rattle.sed_typed.specs.declared.tree.Expr.{Expr}
use Rattle.sed_typed.specs.TypedExpr.{Context, GoesTo}
use Rattle.sed_typed.specs.TypedStmt.{Around, in_loop, in_switch, IsStmt, AreStmts, IsBegun, IsReturned, IsCondition, IsTest, IsLast, IsFirst, AreLabels, row_length}
use Rattle.sed_terms.specs.Term.{Term, Absent, Node}
use Rattle.sed_terms.specs.Sorts.{term_kind}
use Rattle.sed_terms.specs.Seen.{term_of, optional_term, stmt_term, stmts_term, cases_term}
use Rattle.sed_terms.specs.TypedTerm.{IsTerm}
use Rattle.sed_terms.specs.TypedStmtTerm.{IsTermCondition, IsTermTest, IsTermLast, IsTermBegun, IsTermReturned, IsTermFirst, IsStmtTerm, AreStmtTerms, AreCaseTerms, labels_of}
use Rattle.sed_terms.proofs.Again.{kind_again, goes_again}
use Rattle.sed_terms.proofs.Back.{expr_back}
use Rattle.sed_terms.proofs.StmtAgain.{IsNode, is_node}

-- ---- parts that may be missing

condition_back : (c : Context) (e : Expr) → IsCondition c e → IsTermCondition c (term_of e)
condition_back c e h = (expr_back c e h.0, kind_again e ∙ h.1)

test_at : (c : Context) (t : Term) → IsNode t → IsTermCondition c t → IsTermTest c t
test_at c Absent h g = absurd h
test_at c (Node s a b) h g = g

test_back : (c : Context) (e : Option Expr) → IsTest c e → IsTermTest c (optional_term e)
test_back c None h = tt
test_back c (Some e) h = test_at c (term_of e) (is_node e) (condition_back c e h)

last_at : (c : Context) (t : Term) → IsNode t → IsTerm c t → IsTermLast c t
last_at c Absent h g = absurd h
last_at c (Node s a b) h g = g

last_back : (c : Context) (e : Option Expr) → IsLast c e → IsTermLast c (optional_term e)
last_back c None h = tt
last_back c (Some e) h = last_at c (term_of e) (is_node e) (expr_back c e h)

begun_at : (c : Context) (k : Kind) (t : Term) → IsNode t → IsTerm c t × GoesTo c.program (term_kind t) k → IsTermBegun c k t
begun_at c k Absent h g = absurd h
begun_at c k (Node s a b) h g = g

begun_back : (c : Context) (k : Kind) (e : Option Expr) → IsBegun c k e → IsTermBegun c k (optional_term e)
begun_back c k None h = tt
begun_back c k (Some e) h =
    begun_at c k (term_of e) (is_node e) (expr_back c e h.0, goes_again c.program (sym (kind_again e)) refl h.1)

returned_at : (c : Context) (t : Term) → IsNode t → IsTerm c t × GoesTo c.program (term_kind t) c.result × (c.result ≡ kind.Void → ⊥) →
    IsTermReturned c t
returned_at c Absent h g = absurd h
returned_at c (Node s a b) h g = g

returned_back : (c : Context) (e : Option Expr) → IsReturned c e → IsTermReturned c (optional_term e)
returned_back c None h = h
returned_back c (Some e) h =
    returned_at c (term_of e) (is_node e) (expr_back c e h.0, goes_again c.program (sym (kind_again e)) refl h.1, h.2)

first_back : (s : Stmt) → IsFirst s → IsTermFirst (stmt_term s)
first_back stmt.Empty h = tt
first_back (stmt.Do e) h = tt
first_back (stmt.Local k i e) h = tt
first_back (stmt.Block' shape all) h = absurd h
first_back (stmt.If' t p a q b) h = absurd h
first_back (stmt.While' t p body) h = absurd h
first_back (stmt.DoWhile' p body t) h = absurd h
first_back (stmt.For' p first t last q body) h = absurd h
first_back (stmt.Switch' e labels shape all) h = absurd h
first_back stmt.Break h = absurd h
first_back stmt.Continue h = absurd h
first_back (stmt.Return e) h = absurd h

-- ---- labels

labels_back : {n : Count} (ls : List Label) (all : Row_of-Stmt n) → length ls ≡ row_length all → labels_of (cases_term ls all) ≡ ls
labels_back [] end_of-Stmt h = refl
labels_back [] (more_of-Stmt x xs) h = absurd (omega (arith, h))
labels_back (l ∷ ls) end_of-Stmt h = absurd (omega (arith, h))
labels_back (l ∷ ls) (more_of-Stmt x xs) h = let q : length ls ≡ row_length xs = omega (arith, h) in ap (λ ms. l ∷ ms) (labels_back ls xs q)

-- ---- statements

mutual
  pub stmt_back : (c : Context) (around : Around) (s : Stmt) → IsStmt c around s → IsStmtTerm c around (stmt_term s)
  stmt_back c around stmt.Empty h = tt
  stmt_back c around (stmt.Do e) h = expr_back c e h
  stmt_back c around (stmt.Local k i e) h = (h.0, begun_back c k e h.1, h.2)
  stmt_back c around (stmt.Block' shape all) h = stmts_back c around all h
  stmt_back c around (stmt.If' t p a q b) h = (condition_back c t h.0, stmt_back c around a h.1, stmt_back c around b h.2)
  stmt_back c around (stmt.While' t p body) h = (condition_back c t h.0, stmt_back c in_loop body h.1)
  stmt_back c around (stmt.DoWhile' p body t) h = (stmt_back c in_loop body h.0, condition_back c t h.1)
  stmt_back c around (stmt.For' p first t last q body) h =
      (first_back first h.0, stmt_back c around first h.1, test_back c t h.2, last_back c last h.3, stmt_back c in_loop body h.4)
  stmt_back c around (stmt.Switch' e labels shape all) h =
      (expr_back c e h.0, kind_again e ∙ h.1, subst AreLabels (sym (labels_back labels.items all h.3)) h.2, cases_back c (in_switch around) labels.items all h.3 h.4)
  stmt_back c around stmt.Break h = h
  stmt_back c around stmt.Continue h = h
  stmt_back c around (stmt.Return e) h = returned_back c e h

  stmts_back : (c : Context) (around : Around) {n : Count} (all : Row_of-Stmt n) → AreStmts c around all → AreStmtTerms c around (stmts_term all)
  stmts_back c around end_of-Stmt h = tt
  stmts_back c around (more_of-Stmt x xs) h = (stmt_back c around x h.0, stmts_back c around xs h.1)

  cases_back : (c : Context) (around : Around) {n : Count} (ls : List Label) (all : Row_of-Stmt n) → length ls ≡ row_length all → AreStmts c around all →
      AreCaseTerms c around (cases_term ls all)
  cases_back c around [] end_of-Stmt q h = tt
  cases_back c around [] (more_of-Stmt x xs) q h = absurd (omega (arith, q))
  cases_back c around (l ∷ ls) end_of-Stmt q h = absurd (omega (arith, q))
  cases_back c around (l ∷ ls) (more_of-Stmt x xs) q h =
      let r : length ls ≡ row_length xs = omega (arith, q) in (stmt_back c around x h.0, cases_back c around ls xs r h.1)
