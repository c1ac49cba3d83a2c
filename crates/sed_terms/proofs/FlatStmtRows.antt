-- Rows of flat statements, one item after another.
use Rattle.std.proofs.Common.{◌≡◌, suc, List, [], ◌∷◌, ◌++◌, length, Vec, Global, refl, sym, ap, subst, ◌∙◌}
use mathlib.Core.Former.{Count}
use Rattle.sed_typed.specs.Flat.{IsFlatStmt, AreFlatStmts, AreAllFlatStmts}
use Rattle.sed_typed.specs.declared.statement.Stmt.{Stmt, Row_of-Stmt, end_of-Stmt, more_of-Stmt, items-the_row-Stmt, items_hidden-the_row-Stmt-0}
use Rattle.sed_typed.specs.declared.statement.Stmt.TheBlock.{hidden-the_row-Stmt-0}

pub one_more_flat : (xs : List Stmt) (x : Stmt) → AreAllFlatStmts xs → IsFlatStmt x → AreAllFlatStmts (xs ++ x ∷ [])
one_more_flat [] x all flat = (flat, tt)
one_more_flat (y ∷ ys) x all flat = (all.0, one_more_flat ys x all.1 flat)

-- ---- a row is the list of a vector

row_flat : {n : Count} (all : Row_of-Stmt n) → AreAllFlatStmts (items-the_row-Stmt n all) → AreFlatStmts all
row_flat end_of-Stmt h = tt
row_flat (more_of-Stmt x xs) h = (h.0, row_flat xs h.1)

pub block_flat : (all : Vec Stmt Global) → AreAllFlatStmts all.items → AreFlatStmts (hidden-the_row-Stmt-0 all)
block_flat all h = row_flat (hidden-the_row-Stmt-0 all) (subst AreAllFlatStmts (sym (items_hidden-the_row-Stmt-0 all)) h)

-- ---- labels

pub one_more_each : {A B : Type 0} (xs new : List A) (ys also : List B) (x : A) (y : B) → length xs ≡ length ys →
    new ≡ xs ++ x ∷ [] → also ≡ ys ++ y ∷ [] → length new ≡ length also
one_more_each xs new ys also x y same is also_is =
    ap length is ∙ longer xs x ∙ ap suc same ∙ sym (longer ys y) ∙ sym (ap length also_is)
  where
    longer : {A : Type 0} (xs : List A) (x : A) → length (xs ++ x ∷ []) ≡ suc (length xs)
    longer [] x = refl
    longer (z ∷ zs) x = ap suc (longer zs x)
