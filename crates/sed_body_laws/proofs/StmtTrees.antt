-- The tree of the term of a typed statement.
use Rattle.std.proofs.Common.{◌≡◌, ◌≤◌, ◌<◌, ◌^◌, ℕ, List, [], ◌∷◌, length, map, Vec, Global, Option, Some, None, refl, sym, ◌∙◌, subst, arith}
use mathlib.Core.Former.{Count}
use Rattle.sed_typed.specs.declared.kind.Kind.{Kind}
use Rattle.sed_typed.specs.declared.statement.Label.{Label}
use Rattle.sed_typed.specs.declared.statement.Stmt.{Stmt, Row_of-Stmt, end_of-Stmt, more_of-Stmt, items-the_row-Stmt, items_hidden-the_row-Stmt-0}
use Rattle.sed_typed.specs.declared.statement.Stmt.TheBlock.{hidden-the_row-Stmt-0}
use Rattle.sed_typed.specs.declared.statement.Stmt.TheVariants as stmt
use Rattle.sed_typed.specs.declared.tree.Expr.{Expr}
use Rattle.sed_typed.specs.Flat.{IsFlatOr, AreFlatStmts, AreAllFlatStmts}
use Rattle.sed_typed.specs.TypedExpr.{Context}
use Rattle.sed_typed.specs.TypedStmt.{Around, in_loop, in_switch}
use Rattle.sed_terms.specs.declared.sign.Sign.{Sign}
use Rattle.sed_terms.specs.declared.sign.Sign.TheVariants as sign
use Rattle.sed_terms.specs.Cases.{cases_row}
use Rattle.sed_terms.specs.Term.{Term, Absent, Node, leaf, row}
use Rattle.sed_terms.specs.Seen.{term_of, optional_term, stmt_term, stmts_term, cases_term}
use Rattle.sed_terms.specs.TypedStmtTerm.{IsTermTest, IsTermLast, IsTermBegun, IsTermReturned, IsStmtTerm, AreStmtTerms, AreCaseTerms}
use Rattle.sed_terms.proofs.StmtRows.{block_row, cases_are_row}
use Rattle.sed_body_laws.specs.Neat.{IsNeat, term_size}
use Rattle.sed_body_laws.specs.Trees.{HasTree}
use Rattle.sed_body_laws.proofs.Vectors.{box_of, vec_of}
use Rattle.sed_body_laws.proofs.Chains.{Tree}
use Rattle.sed_body_laws.proofs.ExprTrees.{Sized, left, right, nodes, expr_tree}

-- ---- parts that may be missing

pub record IsPartOf (t : Term) (e : Option Expr) : Type 0 where
  pub term : optional_term e ≡ t
  pub flat : IsFlatOr e

abbrev Part : Term → Type 0
Part t = (e : Option Expr) × IsPartOf t e

missing : Part Absent
missing = (None, record { term = refl; flat = tt })

there : (t : Term) → Tree t → Part t
there t f = (Some f.0, record { term = f.1.term; flat = f.1.flat })

test_part : (c : Context) (t : Term) → IsTermTest c t → Sized t → Part t
test_part c Absent h z = missing
test_part c (Node s a b) h z = there (Node s a b) (expr_tree c (Node s a b) h.0 z)

last_part : (c : Context) (t : Term) → IsTermLast c t → Sized t → Part t
last_part c Absent h z = missing
last_part c (Node s a b) h z = there (Node s a b) (expr_tree c (Node s a b) h z)

begun_part : (c : Context) (k : Kind) (t : Term) → IsTermBegun c k t → Sized t → Part t
begun_part c k Absent h z = missing
begun_part c k (Node s a b) h z = there (Node s a b) (expr_tree c (Node s a b) h.0 z)

returned_part : (c : Context) (t : Term) → IsTermReturned c t → Sized t → Part t
returned_part c Absent h z = missing
returned_part c (Node s a b) h z = there (Node s a b) (expr_tree c (Node s a b) h.0 z)

-- ---- rows

row_flat : {n : Count} (all : Row_of-Stmt n) → AreAllFlatStmts (items-the_row-Stmt n all) → AreFlatStmts all
row_flat end_of-Stmt h = tt
row_flat (more_of-Stmt x xs) h = (h.0, row_flat xs h.1)

stmts_flat : (v : Vec Stmt Global) → AreAllFlatStmts v.items → AreFlatStmts (hidden-the_row-Stmt-0 v)
stmts_flat v h =
    row_flat (hidden-the_row-Stmt-0 v) (subst AreAllFlatStmts (sym (items_hidden-the_row-Stmt-0 v)) h)

pub record AreTreesOf (t : Term) (xs : List Stmt) : Type 0 where
  pub term : row (map stmt_term xs) ≡ t
  pub flat : AreAllFlatStmts xs
  pub count : length xs ≤ term_size t

abbrev Rows : Term → Type 0
Rows t = (xs : List Stmt) × AreTreesOf t xs

no_rows : Rows Absent
no_rows = ([], record { term = refl; flat = tt; count = omega arith })

more_rows : (t rest : Term) → HasTree t → Rows rest → Rows (Node sign.More t rest)
more_rows t rest f g = (
  f.0 ∷ g.0,
  record {
    term = nodes sign.More (stmt_term f.0) (row (map stmt_term g.0)) t rest f.1.term g.1.term;
    flat = (f.1.flat, g.1.flat);
    count = omega (arith, g.1.count);
  },
)

-- labels, each with its block
pub record AreCasesOf (t : Term) (ls : List Label) (xs : List Stmt) : Type 0 where
  pub term : cases_row ls (map stmt_term xs) ≡ t
  pub flat : AreAllFlatStmts xs
  pub count : length xs ≤ term_size t
  pub labels : length ls ≤ term_size t

abbrev Cases : Term → Type 0
Cases t = (ls : List Label) × ((xs : List Stmt) × AreCasesOf t ls xs)

no_cases : Cases Absent
no_cases = ([], ([], record { term = refl; flat = tt; count = omega arith; labels = omega arith }))

more_cases : (l : Label) (t rest : Term) → HasTree t → Cases rest → Cases (Node (sign.Label l) t rest)
more_cases l t rest f g = (
  l ∷ g.0,
  (
    f.0 ∷ g.1.0,
    record {
      term = nodes (sign.Label l) (stmt_term f.0) (cases_row g.0 (map stmt_term g.1.0)) t rest f.1.term g.1.1.term;
      flat = (f.1.flat, g.1.1.flat);
      count = omega (arith, g.1.1.count);
      labels = omega (arith, g.1.1.labels);
    },
  ),
)

-- ---- statements, by their parts

leaf_stmt : (s : Sign) (a b : Term) → a ≡ Absent → b ≡ Absent → HasTree (leaf s) → HasTree (Node s a b)
leaf_stmt s a b p q t = subst (λ x. HasTree (Node s x b)) (sym p) (subst (λ y. HasTree (Node s Absent y)) (sym q) t)

do_stmt : (e b : Term) → b ≡ Absent → Tree e → HasTree (Node sign.Do e b)
do_stmt e b none f = (
  stmt.Do f.0,
  record { term = nodes sign.Do (term_of f.0) Absent e b f.1.term (sym none); flat = f.1.flat },
)

local_stmt : (k : Kind) (i : ℕ) (e b : Term) → b ≡ Absent → Part e → HasTree (Node (sign.Begin k i) e b)
local_stmt k i e b none f = (
  stmt.Local k i f.0,
  record { term = nodes (sign.Begin k i) (optional_term f.0) Absent e b f.1.term (sym none); flat = f.1.flat },
)

return_stmt : (e b : Term) → b ≡ Absent → Part e → HasTree (Node sign.Return e b)
return_stmt e b none f = (
  stmt.Return f.0,
  record { term = nodes sign.Return (optional_term f.0) Absent e b f.1.term (sym none); flat = f.1.flat },
)

block_stmt : (all b : Term) → b ≡ Absent → term_size all < 2 ^ 63 → Rows all → HasTree (Node sign.Block all b)
block_stmt all b none few f =
    let v : Vec Stmt Global = vec_of f.0 (omega (arith, f.1.count, few)) in (
      stmt.Block v,
      record {
        term = nodes sign.Block (stmts_term (hidden-the_row-Stmt-0 v)) Absent all b (block_row v ∙ f.1.term) (sym none);
        flat = stmts_flat v f.1.flat;
      },
    )

if_stmt : (t x y : Term) → Tree t → HasTree x → HasTree y → HasTree (Node sign.If t (Node sign.Pair x y))
if_stmt t x y f g h = (
  stmt.If f.0 (box_of g.0) (box_of h.0),
  record {
    term = nodes sign.If (term_of f.0) (Node sign.Pair (stmt_term g.0) (stmt_term h.0)) t (Node sign.Pair x y) f.1.term
        (nodes sign.Pair (stmt_term g.0) (stmt_term h.0) x y g.1.term h.1.term);
    flat = (f.1.flat, g.1.flat, h.1.flat);
  },
)

while_stmt : (t x : Term) → Tree t → HasTree x → HasTree (Node sign.While t x)
while_stmt t x f g = (
  stmt.While f.0 (box_of g.0),
  record {
    term = nodes sign.While (term_of f.0) (stmt_term g.0) t x f.1.term g.1.term;
    flat = (f.1.flat, g.1.flat);
  },
)

do_while_stmt : (x t : Term) → HasTree x → Tree t → HasTree (Node sign.DoWhile x t)
do_while_stmt x t f g = (
  stmt.DoWhile (box_of f.0) g.0,
  record {
    term = nodes sign.DoWhile (stmt_term f.0) (term_of g.0) x t f.1.term g.1.term;
    flat = (f.1.flat, g.1.flat);
  },
)

for_stmt : (first t last x : Term) → HasTree first → Part t → Part last → HasTree x →
    HasTree (Node sign.For (Node sign.Pair first (Node sign.Pair t last)) x)
for_stmt first t last x f g h j = (
  stmt.For (box_of f.0) g.0 h.0 (box_of j.0),
  record {
    term = nodes sign.For
        (Node sign.Pair (stmt_term f.0) (Node sign.Pair (optional_term g.0) (optional_term h.0))) (stmt_term j.0)
        (Node sign.Pair first (Node sign.Pair t last)) x
        (nodes sign.Pair (stmt_term f.0) (Node sign.Pair (optional_term g.0) (optional_term h.0)) first
        (Node sign.Pair t last) f.1.term
        (nodes sign.Pair (optional_term g.0) (optional_term h.0) t last g.1.term h.1.term))
        j.1.term;
    flat = (f.1.flat, g.1.flat, h.1.flat, j.1.flat);
  },
)

switch_stmt : (e cases : Term) → term_size cases < 2 ^ 63 → Tree e → Cases cases → HasTree (Node sign.Switch e cases)
switch_stmt e cases few f g =
    let v : Vec Stmt Global = vec_of g.1.0 (omega (arith, g.1.1.count, few)) in
    let ls : Vec Label Global = vec_of g.0 (omega (arith, g.1.1.labels, few)) in (
      stmt.Switch f.0 ls v,
      record {
        term = nodes sign.Switch (term_of f.0) (cases_term g.0 (hidden-the_row-Stmt-0 v)) e cases f.1.term
            (cases_are_row g.0 v ∙ g.1.1.term);
        flat = (f.1.flat, stmts_flat v g.1.1.flat);
      },
    )

-- ---- all statements

mutual
  pub stmt_tree : (c : Context) (around : Around) (t : Term) → IsStmtTerm c around t → Sized t → HasTree t
  stmt_tree c around (Node sign.Empty a b) h z =
      leaf_stmt sign.Empty a b z.neat.0 z.neat.1 (stmt.Empty, record { term = refl; flat = tt })
  stmt_tree c around (Node sign.Do e b) h z = do_stmt e b z.neat.1 (expr_tree c e h (left sign.Do e b z))
  stmt_tree c around (Node (sign.Begin k i) e b) h z =
      local_stmt k i e b z.neat.1 (begun_part c k e h.1 (left (sign.Begin k i) e b z))
  stmt_tree c around (Node sign.Block all b) h z =
      let y = left sign.Block all b z in block_stmt all b z.neat.1 y.small (stmt_trees c around all h y)
  stmt_tree c around (Node sign.If t (Node sign.Pair x y)) h z =
      let w = right sign.If t (Node sign.Pair x y) z in
      if_stmt t x y (expr_tree c t h.0.0 (left sign.If t (Node sign.Pair x y) z))
      (stmt_tree c around x h.1 (left sign.Pair x y w)) (stmt_tree c around y h.2 (right sign.Pair x y w))
  stmt_tree c around (Node sign.While t x) h z =
      while_stmt t x (expr_tree c t h.0.0 (left sign.While t x z))
      (stmt_tree c in_loop x h.1 (right sign.While t x z))
  stmt_tree c around (Node sign.DoWhile x t) h z =
      do_while_stmt x t (stmt_tree c in_loop x h.0 (left sign.DoWhile x t z))
      (expr_tree c t h.1.0 (right sign.DoWhile x t z))
  stmt_tree c around (Node sign.For (Node sign.Pair first (Node sign.Pair t last)) x) h z =
      let head = left sign.For (Node sign.Pair first (Node sign.Pair t last)) x z in
      let rest = right sign.Pair first (Node sign.Pair t last) head in
      for_stmt first t last x (stmt_tree c around first h.1 (left sign.Pair first (Node sign.Pair t last) head))
      (test_part c t h.2 (left sign.Pair t last rest)) (last_part c last h.3 (right sign.Pair t last rest))
      (stmt_tree c in_loop x h.4 (right sign.For (Node sign.Pair first (Node sign.Pair t last)) x z))
  stmt_tree c around (Node sign.Switch e cases) h z =
      let y = right sign.Switch e cases z in
      switch_stmt e cases y.small (expr_tree c e h.0 (left sign.Switch e cases z))
      (case_trees c (in_switch around) cases h.3 y)
  stmt_tree c around (Node sign.Break a b) h z =
      leaf_stmt sign.Break a b z.neat.0 z.neat.1 (stmt.Break, record { term = refl; flat = tt })
  stmt_tree c around (Node sign.Continue a b) h z =
      leaf_stmt sign.Continue a b z.neat.0 z.neat.1 (stmt.Continue, record { term = refl; flat = tt })
  stmt_tree c around (Node sign.Return e b) h z =
      return_stmt e b z.neat.1 (returned_part c e h (left sign.Return e b z))
  stmt_tree c around t h z = absurd h

  stmt_trees : (c : Context) (around : Around) (t : Term) → AreStmtTerms c around t → Sized t → Rows t
  stmt_trees c around Absent h z = no_rows
  stmt_trees c around (Node sign.More x rest) h z =
      more_rows x rest (stmt_tree c around x h.0 (left sign.More x rest z))
      (stmt_trees c around rest h.1 (right sign.More x rest z))
  stmt_trees c around t h z = absurd h

  case_trees : (c : Context) (around : Around) (t : Term) → AreCaseTerms c around t → Sized t → Cases t
  case_trees c around Absent h z = no_cases
  case_trees c around (Node (sign.Label l) x rest) h z =
      more_cases l x rest (stmt_tree c around x h.0 (left (sign.Label l) x rest z))
      (case_trees c around rest h.1 (right (sign.Label l) x rest z))
  case_trees c around t h z = absurd h

pub typed_tree : (c : Context) (around : Around) (t : Term) → IsStmtTerm c around t → IsNeat t →
    term_size t < 2 ^ 63 → HasTree t
typed_tree c around t h neat small = stmt_tree c around t h (record { neat = neat; small = small })
