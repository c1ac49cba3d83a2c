-- The trees of terms, and bodies that a memory holds.
use Rattle.std.specs.Prelude.{◌≡◌, ◌<◌, ◌^◌, List}
use Rattle.sed_units.specs.Tree.{Tree, row, tree_size}
use Rattle.sed_typed.specs.declared.statement.Stmt.{Stmt}
use Rattle.sed_typed.specs.Flat.{IsFlatStmt}
use Rattle.sed_terms.specs.Seen.{stmt_term}
use Rattle.sed_terms.specs.Term.{Term}

-- The flat tree of a term.
pub record IsTreeOf (t : Term) (body : Stmt) : Type 0 where
  pub term : stmt_term body ≡ t
  pub flat : IsFlatStmt body

-- A term has one.
abbrev pub HasTree : Term → Type 0
HasTree t = (body : Stmt) × IsTreeOf t body

-- A body of fewer than 2^60 parts, which is more than any memory holds of them.
abbrev pub IsShort : List Tree → Type 0
IsShort body = tree_size (row body) < 2 ^ 60
