-- The kinds of the locals that a body declares, for the private clauses of who finds them. No public clause rests on
-- it.
use Rattle.std.specs.Prelude.{List, [], ◌∷◌, ◌++◌, Option, Some, None}
use Rattle.sed_typed.specs.declared.statement.Stmt.{Stmt, Row_of-Stmt, end_of-Stmt, more_of-Stmt}
use Rattle.sed_typed.specs.declared.statement.Stmt.TheVariants as stmt
use Rattle.scode_image.specs.declared.image.ImageKind.{ImageKind}
use Rattle.scode_entries.specs.Entries.{cell_of}

abbrev mutual
  pub declared_kinds : Stmt → List ImageKind
  declared_kinds (stmt.Local k i e) = cell_of k ∷ []
  declared_kinds (stmt.Block' shape all) = all_declared_kinds all
  declared_kinds (stmt.If' t p a q b) = declared_kinds a ++ declared_kinds b
  declared_kinds (stmt.While' t p body) = declared_kinds body
  declared_kinds (stmt.DoWhile' p body t) = declared_kinds body
  declared_kinds (stmt.For' p first t last q body) = declared_kinds first ++ declared_kinds body
  declared_kinds (stmt.Switch' e labels shape all) = all_declared_kinds all
  declared_kinds s = []

  pub all_declared_kinds : {n : _} → Row_of-Stmt n → List ImageKind
  all_declared_kinds end_of-Stmt = []
  all_declared_kinds (more_of-Stmt s ss) = declared_kinds s ++ all_declared_kinds ss

abbrev pub block_kinds : List Stmt → List ImageKind
block_kinds [] = []
block_kinds (s ∷ ss) = declared_kinds s ++ block_kinds ss

-- of a method's body, where there is one
abbrev pub kinds_by : Option Stmt → List ImageKind
kinds_by None = []
kinds_by (Some body) = declared_kinds body
