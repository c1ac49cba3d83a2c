-- Trees without their places in memory. A box has its address and a vector its address and capacity, so two trees of
-- the same form are equal only where they lie at the same places. Their bare trees are equal wherever they lie: the
-- forms, what stands in them, how links are grouped to chains, and no more.
use Rattle.std.specs.Prelude.{ℕ, ℤ, List, Option, Some, None}
use Rattle.sed_value.specs.declared.slot_type.Primitive.{Primitive}
use Rattle.sed_typed.specs.declared.kind.Kind.{Kind}
use Rattle.sed_typed.specs.declared.number.TypeNo.{TypeNo}
use Rattle.sed_typed.specs.declared.operators.Binary.{Binary as BinaryOperator}
use Rattle.sed_typed.specs.declared.operators.TextCall.{TextCall as CallOfText}
use Rattle.sed_typed.specs.declared.operators.Unary.{Unary as UnaryOperator}
use Rattle.sed_typed.specs.declared.operators.Update.{Update as UpdateForm}
use Rattle.sed_typed.specs.declared.statement.Label.{Label}
use Rattle.sed_typed.specs.declared.statement.Stmt.{Stmt, Row_of-Stmt, end_of-Stmt, more_of-Stmt}
use Rattle.sed_typed.specs.declared.statement.Stmt.TheVariants as stmt
use Rattle.sed_typed.specs.declared.tree.Place.{Place}
use Rattle.sed_typed.specs.declared.tree.Place.TheVariants as place
use Rattle.sed_typed.specs.declared.tree.Expr.{Expr, Row_of-Expr, end_of-Expr, more_of-Expr, Row_of-Link, end_of-Link}
use Rattle.sed_typed.specs.declared.tree.Expr.{more_of-Link}
use Rattle.sed_typed.specs.declared.tree.Expr.TheVariants as expr
use Rattle.sed_typed.specs.declared.tree.Link.{Link}
use Rattle.sed_typed.specs.declared.tree.Link.TheVariants as link

mutual
  pub data BareExpr : Type 0 where
    Int : ℤ → BareExpr
    Long : ℤ → BareExpr
    Truth : ℕ → BareExpr
    Null : Kind → BareExpr
    Text : ℕ → BareExpr
    This : TypeNo → BareExpr
    Local : Kind → ℕ → BareExpr
    Static : Primitive → ℕ → BareExpr
    StaticPart : Kind → ℕ → BareExpr
    StaticElement : Primitive → ℕ → ℕ → BareExpr → BareExpr
    Ticks : BareExpr
    Unary : UnaryOperator → BareExpr → BareExpr
    Choose : BareExpr → BareExpr → BareExpr → BareExpr
    Set : BarePlace → BareExpr → BareExpr
    Update : UpdateForm → BarePlace → BareExpr → BareExpr
    Call : Kind → ℕ → BareExprs → BareExpr
    Super : Kind → ℕ → BareExprs → BareExpr
    Chain : BareExpr → BareLinks → BareExpr

  pub data BarePlace : Type 0 where
    LocalPlace : Kind → ℕ → BarePlace
    StaticPlace : Primitive → ℕ → BarePlace
    FieldPlace : Primitive → BareExpr → ℕ → BarePlace
    ElementPlace : Primitive → ℕ → BareExpr → ℕ → BareExpr → BarePlace
    StaticElementPlace : Primitive → ℕ → ℕ → BareExpr → BarePlace

  pub data BareLink : Type 0 where
    Binary : BinaryOperator → BareExpr → BareLink
    And : BareExpr → BareLink
    Or : BareExpr → BareLink
    Field : Primitive → ℕ → BareLink
    Part : Kind → ℕ → BareLink
    Element : Primitive → ℕ → ℕ → BareExpr → BareLink
    Size : ℕ → BareLink
    Byte : ℕ → BareExpr → BareLink
    Invoke : Kind → ℕ → BareExprs → BareLink
    TextCall : CallOfText → BareExprs → BareLink
    After : BareExpr → BareLink

  pub data BareExprs : Type 0 where
    NoExprs : BareExprs
    MoreExprs : BareExpr → BareExprs → BareExprs

  pub data BareLinks : Type 0 where
    NoLinks : BareLinks
    MoreLinks : BareLink → BareLinks → BareLinks

mutual
  pub data BareStmt : Type 0 where
    Empty : BareStmt
    Do : BareExpr → BareStmt
    Begin : Kind → ℕ → Option BareExpr → BareStmt
    Block : BareStmts → BareStmt
    If : BareExpr → BareStmt → BareStmt → BareStmt
    While : BareExpr → BareStmt → BareStmt
    DoWhile : BareStmt → BareExpr → BareStmt
    For : BareStmt → Option BareExpr → Option BareExpr → BareStmt → BareStmt
    Switch : BareExpr → List Label → BareStmts → BareStmt
    Break : BareStmt
    Continue : BareStmt
    Return : Option BareExpr → BareStmt

  pub data BareStmts : Type 0 where
    NoStmts : BareStmts
    MoreStmts : BareStmt → BareStmts → BareStmts

abbrev mutual
  pub bare_expr : Expr → BareExpr
  bare_expr (expr.Int n) = Int n
  bare_expr (expr.Long n) = Long n
  bare_expr (expr.Bool t) = Truth t
  bare_expr (expr.Null k) = Null k
  bare_expr (expr.Text n) = Text n
  bare_expr (expr.This class) = This class
  bare_expr (expr.Local k i) = Local k i
  bare_expr (expr.Static p i) = Static p i
  bare_expr (expr.StaticPart k i) = StaticPart k i
  bare_expr (expr.StaticElement' p n i q e) = StaticElement p n i (bare_expr e)
  bare_expr expr.Ticks = Ticks
  bare_expr (expr.Unary' op p e) = Unary op (bare_expr e)
  bare_expr (expr.Choose' p t q a r b) = Choose (bare_expr t) (bare_expr a) (bare_expr b)
  bare_expr (expr.Set' target p e) = Set (bare_place target) (bare_expr e)
  bare_expr (expr.Update' u target p e) = Update u (bare_place target) (bare_expr e)
  bare_expr (expr.Call' k m shape args) = Call k m (bare_exprs args)
  bare_expr (expr.Super' k m shape args) = Super k m (bare_exprs args)
  bare_expr (expr.Chain' p e shape links) = Chain (bare_expr e) (bare_links links)

  pub bare_place : Place → BarePlace
  bare_place (place.Local k i) = LocalPlace k i
  bare_place (place.Static p i) = StaticPlace p i
  bare_place (place.Field' p q e i) = FieldPlace p (bare_expr e) i
  bare_place (place.Element' p n q e f r i) = ElementPlace p n (bare_expr e) f (bare_expr i)
  bare_place (place.StaticElement' p n i q e) = StaticElementPlace p n i (bare_expr e)

  pub bare_link : Link → BareLink
  bare_link (link.Binary op e) = Binary op (bare_expr e)
  bare_link (link.And e) = And (bare_expr e)
  bare_link (link.Or e) = Or (bare_expr e)
  bare_link (link.Field p i) = Field p i
  bare_link (link.Part k i) = Part k i
  bare_link (link.Element p n i e) = Element p n i (bare_expr e)
  bare_link (link.Size i) = Size i
  bare_link (link.Byte i e) = Byte i (bare_expr e)
  bare_link (link.Invoke' k m shape args) = Invoke k m (bare_exprs args)
  bare_link (link.TextCall' op shape args) = TextCall op (bare_exprs args)
  bare_link (link.After e) = After (bare_expr e)

  pub bare_exprs : {n : _} → Row_of-Expr n → BareExprs
  bare_exprs end_of-Expr = NoExprs
  bare_exprs (more_of-Expr e es) = MoreExprs (bare_expr e) (bare_exprs es)

  pub bare_links : {n : _} → Row_of-Link n → BareLinks
  bare_links end_of-Link = NoLinks
  bare_links (more_of-Link l ls) = MoreLinks (bare_link l) (bare_links ls)

-- a part that may be missing
abbrev pub bare_or : Option Expr → Option BareExpr
bare_or None = None
bare_or (Some e) = Some (bare_expr e)

abbrev mutual
  pub bare_stmt : Stmt → BareStmt
  bare_stmt stmt.Empty = Empty
  bare_stmt (stmt.Do e) = Do (bare_expr e)
  bare_stmt (stmt.Local k i e) = Begin k i (bare_or e)
  bare_stmt (stmt.Block' shape all) = Block (bare_stmts all)
  bare_stmt (stmt.If' t p a q b) = If (bare_expr t) (bare_stmt a) (bare_stmt b)
  bare_stmt (stmt.While' t p body) = While (bare_expr t) (bare_stmt body)
  bare_stmt (stmt.DoWhile' p body t) = DoWhile (bare_stmt body) (bare_expr t)
  bare_stmt (stmt.For' p first t last q body) = For (bare_stmt first) (bare_or t) (bare_or last) (bare_stmt body)
  bare_stmt (stmt.Switch' e labels shape all) = Switch (bare_expr e) labels.items (bare_stmts all)
  bare_stmt stmt.Break = Break
  bare_stmt stmt.Continue = Continue
  bare_stmt (stmt.Return e) = Return (bare_or e)

  pub bare_stmts : {n : _} → Row_of-Stmt n → BareStmts
  bare_stmts end_of-Stmt = NoStmts
  bare_stmts (more_of-Stmt x xs) = MoreStmts (bare_stmt x) (bare_stmts xs)
