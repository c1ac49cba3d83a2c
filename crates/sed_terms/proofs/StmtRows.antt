-- Rows of statements and of labels, one item after another.
use Rattle.std.proofs.Common.{◌≡◌, List, [], ◌∷◌, ◌++◌, length, map, Vec, Global, refl, ap, ◌∙◌, arith}
use mathlib.Core.Former.{Count}
use Rattle.sed_typed.specs.declared.statement.Label.{Label}
use Rattle.sed_typed.specs.declared.statement.Stmt.{Stmt, Row_of-Stmt, end_of-Stmt, more_of-Stmt, items-the_row-Stmt, items_hidden-the_row-Stmt-0}
use Rattle.sed_typed.specs.declared.statement.Stmt.TheBlock.{hidden-the_row-Stmt-0}
use Rattle.sed_terms.specs.declared.sign.Sign.TheVariants as sign
use Rattle.sed_terms.specs.Term.{Absent, Node, row, with_item, appended}
use Rattle.sed_terms.specs.Seen.{stmt_term, stmts_term, cases_term}
use Rattle.sed_terms.proofs.Rows.{one_more}
use Rattle.sed_terms.specs.Cases.{cases_row}

pub one_more_stmt : (xs : List Stmt) (x : Stmt) → row (map stmt_term (xs ++ x ∷ [])) ≡ with_item (row (map stmt_term xs)) (stmt_term x)
one_more_stmt xs x = one_more stmt_term xs x

-- ---- a row is the list of a vector

stmts_are : {n : Count} (all : Row_of-Stmt n) → stmts_term all ≡ row (map stmt_term (items-the_row-Stmt n all))
stmts_are end_of-Stmt = refl
stmts_are (more_of-Stmt x xs) = ap (λ t. Node sign.More (stmt_term x) t) (stmts_are xs)

pub block_row : (all : Vec Stmt Global) → stmts_term (hidden-the_row-Stmt-0 all) ≡ row (map stmt_term all.items)
block_row all = stmts_are (hidden-the_row-Stmt-0 all) ∙ ap (λ xs. row (map stmt_term xs)) (items_hidden-the_row-Stmt-0 all)

-- ---- labels

pub labels_are : {n : Count} (ls : List Label) (all : Row_of-Stmt n) → cases_term ls all ≡ cases_row ls (map stmt_term (items-the_row-Stmt n all))
labels_are [] end_of-Stmt = refl
labels_are [] (more_of-Stmt x xs) = ap (λ t. Node sign.More (stmt_term x) t) (labels_are [] xs)
labels_are (l ∷ ls) end_of-Stmt = ap (λ t. Node (sign.Label l) Absent t) (labels_are ls end_of-Stmt)
labels_are (l ∷ ls) (more_of-Stmt x xs) = ap (λ t. Node (sign.Label l) (stmt_term x) t) (labels_are ls xs)

pub cases_are_row : (ls : List Label) (all : Vec Stmt Global) → cases_term ls (hidden-the_row-Stmt-0 all) ≡ cases_row ls (map stmt_term all.items)
cases_are_row ls all = labels_are ls (hidden-the_row-Stmt-0 all) ∙ ap (λ xs. cases_row ls (map stmt_term xs)) (items_hidden-the_row-Stmt-0 all)

pub one_more_case : (ls : List Label) (xs : List Stmt) (l : Label) (x : Stmt) → length ls ≡ length xs →
    cases_row (ls ++ l ∷ []) (map stmt_term (xs ++ x ∷ [])) ≡ appended (cases_row ls (map stmt_term xs)) (Node (sign.Label l) (stmt_term x) Absent)
one_more_case [] [] l x h = refl
one_more_case [] (y ∷ ys) l x h = absurd (omega (arith, h))
one_more_case (k ∷ ks) [] l x h = absurd (omega (arith, h))
one_more_case (k ∷ ks) (y ∷ ys) l x h =
    let q : length ks ≡ length ys = omega (arith, h) in ap (λ t. Node (sign.Label k) (stmt_term y) t) (one_more_case ks ys l x q)
