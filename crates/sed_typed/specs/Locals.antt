-- The locals that a body declares, in the order of its text.
use Rattle.std.specs.Prelude.{ℕ, suc, ◌≡◌, List, [], ◌∷◌, ◌++◌}
use Rattle.sed_typed.specs.declared.kind.Kind.{Kind}
use Rattle.sed_typed.specs.declared.statement.Stmt.{Stmt, Row_of-Stmt, end_of-Stmt, more_of-Stmt}
use Rattle.sed_typed.specs.declared.statement.Stmt.TheVariants as stmt

-- a declaration: the number of the local in the frame, and its kind
pub record Declared : Type 0 where
  pub number : ℕ
  pub kind : Kind

abbrev mutual
  pub declared_in : Stmt → List Declared
  declared_in (stmt.Local k i e) = record { number = i; kind = k } ∷ []
  declared_in (stmt.Block' shape all) = all_declared_in all
  declared_in (stmt.If' t p a q b) = declared_in a ++ declared_in b
  declared_in (stmt.While' t p body) = declared_in body
  declared_in (stmt.DoWhile' p body t) = declared_in body
  declared_in (stmt.For' p first t last q body) = declared_in first ++ declared_in body
  declared_in (stmt.Switch' e labels shape all) = all_declared_in all
  declared_in x = []

  pub all_declared_in : {n : _} → Row_of-Stmt n → List Declared
  all_declared_in end_of-Stmt = []
  all_declared_in (more_of-Stmt x xs) = declared_in x ++ all_declared_in xs

-- each declaration has the number that follows that of the one before it
abbrev pub AreNumbered : ℕ → List Declared → Type 0
AreNumbered n [] = Unit {0}
AreNumbered n (d ∷ ds) = (d.number ≡ n) × AreNumbered (suc n) ds
