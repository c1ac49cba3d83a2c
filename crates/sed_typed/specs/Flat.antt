-- Flat trees: what follows an operand from left to right stands in one chain. No head of a chain is a chain itself, and
-- no chain is without links, anywhere inside.
use Rattle.std.specs.Prelude.{List, [], ◌∷◌, Option, Some, None}
use Rattle.sed_typed.specs.declared.statement.Stmt.{Stmt, Row_of-Stmt, end_of-Stmt, more_of-Stmt}
use Rattle.sed_typed.specs.declared.statement.Stmt.TheVariants as stmt
use Rattle.sed_typed.specs.declared.tree.Place.{Place}
use Rattle.sed_typed.specs.declared.tree.Place.TheVariants as place
use Rattle.sed_typed.specs.declared.tree.Expr.{Expr, Row_of-Expr, end_of-Expr, more_of-Expr, Row_of-Link, end_of-Link}
use Rattle.sed_typed.specs.declared.tree.Expr.{more_of-Link}
use Rattle.sed_typed.specs.declared.tree.Expr.TheVariants as expr
use Rattle.sed_typed.specs.declared.tree.Link.{Link}
use Rattle.sed_typed.specs.declared.tree.Link.TheVariants as link

-- what may be the head of a chain
abbrev pub IsNoChain : Expr → Type 0
IsNoChain (expr.Chain' p e shape links) = ⊥
IsNoChain e = Unit {0}

-- there is a link
abbrev pub HasLinks : {n : _} → Row_of-Link n → Type 0
HasLinks end_of-Link = ⊥
HasLinks (more_of-Link l ls) = Unit {0}

abbrev mutual
  pub IsFlat : Expr → Type 0
  IsFlat (expr.StaticElement' p n i q e) = IsFlat e
  IsFlat (expr.Unary' op p e) = IsFlat e
  IsFlat (expr.Choose' p t q a r b) = IsFlat t × IsFlat a × IsFlat b
  IsFlat (expr.Set' target p e) = IsFlatPlace target × IsFlat e
  IsFlat (expr.Update' u target p e) = IsFlatPlace target × IsFlat e
  IsFlat (expr.Call' k m shape args) = AreFlat args
  IsFlat (expr.Super' k m shape args) = AreFlat args
  IsFlat (expr.Chain' p e shape links) = IsNoChain e × IsFlat e × HasLinks links × AreFlatLinks links
  IsFlat e = Unit {0}

  -- the parts of a place
  pub IsFlatPlace : Place → Type 0
  IsFlatPlace (place.Local k i) = Unit {0}
  IsFlatPlace (place.Static p i) = Unit {0}
  IsFlatPlace (place.Field' p q e i) = IsFlat e
  IsFlatPlace (place.Element' p n q e f r i) = IsFlat e × IsFlat i
  IsFlatPlace (place.StaticElement' p n i q e) = IsFlat e

  -- the operands of a link
  pub IsFlatLink : Link → Type 0
  IsFlatLink (link.Binary op e) = IsFlat e
  IsFlatLink (link.And e) = IsFlat e
  IsFlatLink (link.Or e) = IsFlat e
  IsFlatLink (link.Element p n i e) = IsFlat e
  IsFlatLink (link.Byte i e) = IsFlat e
  IsFlatLink (link.Invoke' k m shape args) = AreFlat args
  IsFlatLink (link.TextCall' op shape args) = AreFlat args
  IsFlatLink (link.After e) = IsFlat e
  IsFlatLink l = Unit {0}

  pub AreFlat : {n : _} → Row_of-Expr n → Type 0
  AreFlat end_of-Expr = Unit {0}
  AreFlat (more_of-Expr e es) = IsFlat e × AreFlat es

  pub AreFlatLinks : {n : _} → Row_of-Link n → Type 0
  AreFlatLinks end_of-Link = Unit {0}
  AreFlatLinks (more_of-Link l ls) = IsFlatLink l × AreFlatLinks ls

-- a part that may be missing
abbrev pub IsFlatOr : Option Expr → Type 0
IsFlatOr None = Unit {0}
IsFlatOr (Some e) = IsFlat e

abbrev mutual
  pub IsFlatStmt : Stmt → Type 0
  IsFlatStmt (stmt.Do e) = IsFlat e
  IsFlatStmt (stmt.Local k i e) = IsFlatOr e
  IsFlatStmt (stmt.Block' shape all) = AreFlatStmts all
  IsFlatStmt (stmt.If' t p a q b) = IsFlat t × IsFlatStmt a × IsFlatStmt b
  IsFlatStmt (stmt.While' t p body) = IsFlat t × IsFlatStmt body
  IsFlatStmt (stmt.DoWhile' p body t) = IsFlatStmt body × IsFlat t
  IsFlatStmt (stmt.For' p first t last q body) = IsFlatStmt first × IsFlatOr t × IsFlatOr last × IsFlatStmt body
  IsFlatStmt (stmt.Switch' e labels shape all) = IsFlat e × AreFlatStmts all
  IsFlatStmt (stmt.Return e) = IsFlatOr e
  IsFlatStmt x = Unit {0}

  pub AreFlatStmts : {n : _} → Row_of-Stmt n → Type 0
  AreFlatStmts end_of-Stmt = Unit {0}
  AreFlatStmts (more_of-Stmt x xs) = IsFlatStmt x × AreFlatStmts xs

-- ---- lists of them

abbrev pub AreAllFlat : List Expr → Type 0
AreAllFlat [] = Unit {0}
AreAllFlat (e ∷ es) = IsFlat e × AreAllFlat es

abbrev pub AreAllFlatStmts : List Stmt → Type 0
AreAllFlatStmts [] = Unit {0}
AreAllFlatStmts (x ∷ xs) = IsFlatStmt x × AreAllFlatStmts xs
