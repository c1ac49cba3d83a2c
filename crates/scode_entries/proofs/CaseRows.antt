-- What holds of each statement of a list holds of a row.
use Rattle.std.proofs.Common.{ℤ, List, [], ◌∷◌, Vec, Global, sym, subst}
use Rattle.std.specs.Prelude.{All}
use Rattle.std.proofs.lemmas.List.Elements.{All-head, All-tail}
use mathlib.Core.Former.{Count}
use Rattle.sed_typed.specs.declared.statement.Stmt.{Stmt, Row_of-Stmt, end_of-Stmt, more_of-Stmt, items-the_row-Stmt, items_hidden-the_row-Stmt-0}
use Rattle.sed_typed.specs.declared.statement.Stmt.TheBlock.{hidden-the_row-Stmt-0}
use Rattle.scode_entries.specs.Cases.{EachCase, EachCases}

row_of : {n : Count} (Q : ℤ → Type 0) (row : Row_of-Stmt n) → All (EachCase Q) (items-the_row-Stmt n row) → EachCases Q row
row_of Q end_of-Stmt h = tt
row_of Q (more_of-Stmt s ss) h =
    (All-head (EachCase Q) s (items-the_row-Stmt _ ss) h, row_of Q ss (All-tail (EachCase Q) s (items-the_row-Stmt _ ss) h))

pub cases_hidden : (Q : ℤ → Type 0) (all : Vec Stmt Global) → All (EachCase Q) all.items → EachCases Q (hidden-the_row-Stmt-0 all)
cases_hidden Q all h =
    row_of Q (hidden-the_row-Stmt-0 all) (subst (λ (ss : List Stmt). All (EachCase Q) ss) (sym (items_hidden-the_row-Stmt-0 all)) h)
