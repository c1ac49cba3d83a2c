-- The term of a bare tree: a tree has the term of its bare tree.
use Rattle.std.proofs.Common.{◌≡◌, List, [], ◌∷◌, Option, Some, None, refl, ap, sym, ◌∙◌}
use mathlib.Core.Former.{Count}
use Rattle.sed_typed.specs.Bare as bare
use Rattle.sed_typed.specs.Bare.{BareExpr, BareExprs, BareLink, BareLinks, BarePlace, BareStmt, BareStmts, bare_expr, bare_exprs, bare_link, bare_links, bare_or, bare_place, bare_stmt, bare_stmts}
use Rattle.sed_typed.specs.declared.operators.Gives.{Gives}
use Rattle.sed_typed.specs.declared.operators.Gives.TheVariants.{Old, New}
use Rattle.sed_typed.specs.declared.statement.Label.{Label}
use Rattle.sed_typed.specs.declared.statement.Stmt.{Stmt, Row_of-Stmt, end_of-Stmt, more_of-Stmt}
use Rattle.sed_typed.specs.declared.statement.Stmt.TheVariants as stmt
use Rattle.sed_typed.specs.declared.tree.Expr.{Expr, Row_of-Expr, end_of-Expr, more_of-Expr, Row_of-Link, end_of-Link, more_of-Link}
use Rattle.sed_typed.specs.declared.tree.Expr.TheVariants as expr
use Rattle.sed_typed.specs.declared.tree.Link.{Link}
use Rattle.sed_typed.specs.declared.tree.Link.TheVariants as link
use Rattle.sed_typed.specs.declared.tree.Place.{Place}
use Rattle.sed_typed.specs.declared.tree.Place.TheVariants as place
use Rattle.sed_terms.specs.declared.sign.Sign.TheVariants as sign
use Rattle.sed_terms.specs.Term.{Term, Absent, Node, leaf}
use Rattle.sed_terms.specs.Seen.{term_of, place_term, operand_term, link_term, term_after, args_term, optional_term, stmt_term, stmts_term, cases_term}

-- ---- expressions

abbrev bare_operand : Gives → BareExpr → Term → Term
bare_operand New e t = t
bare_operand Old (bare.Int n) t = t
bare_operand Old (bare.Long n) t = t
bare_operand Old e t = Node sign.Pair t Absent

abbrev mutual
  term_in : BareExpr → Term
  term_in (bare.Int n) = leaf (sign.Int n)
  term_in (bare.Long n) = leaf (sign.Long n)
  term_in (bare.Truth t) = leaf (sign.Bool t)
  term_in (bare.Null k) = leaf (sign.Null k)
  term_in (bare.Text n) = leaf (sign.Text n)
  term_in (bare.This class) = leaf (sign.This class)
  term_in (bare.Local k i) = leaf (sign.Local k i)
  term_in (bare.Static p i) = leaf (sign.Static p i)
  term_in (bare.StaticPart k i) = leaf (sign.StaticPart k i)
  term_in (bare.StaticElement p n i e) = Node (sign.StaticElement p n i) (term_in e) Absent
  term_in bare.Ticks = leaf sign.Ticks
  term_in (bare.Unary op e) = Node (sign.Unary op) (term_in e) Absent
  term_in (bare.Choose t a b) = Node sign.Choose (term_in t) (Node sign.Pair (term_in a) (term_in b))
  term_in (bare.Set target e) = Node sign.Set (place_in target) (term_in e)
  term_in (bare.Update u target e) = Node (sign.Update u) (place_in target) (bare_operand u.gives e (term_in e))
  term_in (bare.Call k m args) = Node (sign.Call k m) (terms_in args) Absent
  term_in (bare.Super k m args) = Node (sign.Super k m) (terms_in args) Absent
  term_in (bare.Chain e links) = links_around (term_in e) links

  place_in : BarePlace → Term
  place_in (bare.LocalPlace k i) = leaf (sign.Local k i)
  place_in (bare.StaticPlace p i) = leaf (sign.Static p i)
  place_in (bare.FieldPlace p e i) = Node (sign.Field p i) (term_in e) Absent
  place_in (bare.ElementPlace p n e f i) = Node (sign.Element p n f) (term_in e) (term_in i)
  place_in (bare.StaticElementPlace p n i e) = Node (sign.StaticElement p n i) (term_in e) Absent

  link_around : Term → BareLink → Term
  link_around t (bare.Binary op e) = Node (sign.Binary op) t (term_in e)
  link_around t (bare.And e) = Node sign.And t (term_in e)
  link_around t (bare.Or e) = Node sign.Or t (term_in e)
  link_around t (bare.Field p i) = Node (sign.Field p i) t Absent
  link_around t (bare.Part k i) = Node (sign.Part k i) t Absent
  link_around t (bare.Element p n i e) = Node (sign.Element p n i) t (term_in e)
  link_around t (bare.Size i) = Node (sign.Size i) t Absent
  link_around t (bare.Byte i e) = Node (sign.Byte i) t (term_in e)
  link_around t (bare.Invoke k m args) = Node (sign.Invoke k m) t (terms_in args)
  link_around t (bare.TextCall op args) = Node (sign.TextCall op) t (terms_in args)
  link_around t (bare.After e) = Node sign.After t (term_in e)

  links_around : Term → BareLinks → Term
  links_around t bare.NoLinks = t
  links_around t (bare.MoreLinks l ls) = links_around (link_around t l) ls

  terms_in : BareExprs → Term
  terms_in bare.NoExprs = Absent
  terms_in (bare.MoreExprs e es) = Node sign.More (term_in e) (terms_in es)

operand_bare : (g : Gives) (e : Expr) (t : Term) → operand_term g e t ≡ bare_operand g (bare_expr e) t
operand_bare New e t = refl
operand_bare Old (expr.Int n) t = refl
operand_bare Old (expr.Long n) t = refl
operand_bare Old e t = refl

mutual
  expr_seen : (e : Expr) → term_of e ≡ term_in (bare_expr e)
  expr_seen (expr.StaticElement' p n i q e) = ap (λ x. Node (sign.StaticElement p n i) x Absent) (expr_seen e)
  expr_seen (expr.Unary' op p e) = ap (λ x. Node (sign.Unary op) x Absent) (expr_seen e)
  expr_seen (expr.Choose' p t q a r b) =
      ap (λ x. Node sign.Choose x (Node sign.Pair (term_of a) (term_of b))) (expr_seen t)
      ∙ ap (λ x. Node sign.Choose (term_in (bare_expr t)) (Node sign.Pair x (term_of b))) (expr_seen a)
      ∙ ap (λ x. Node sign.Choose (term_in (bare_expr t)) (Node sign.Pair (term_in (bare_expr a)) x)) (expr_seen b)
  expr_seen (expr.Set' target p e) =
      ap (λ x. Node sign.Set x (term_of e)) (place_seen target) ∙ ap (Node sign.Set (place_in (bare_place target))) (expr_seen e)
  expr_seen (expr.Update' u target p e) =
      ap (λ x. Node (sign.Update u) x (operand_term u.gives e (term_of e))) (place_seen target)
      ∙ ap (Node (sign.Update u) (place_in (bare_place target)))
      (operand_bare u.gives e (term_of e) ∙ ap (bare_operand u.gives (bare_expr e)) (expr_seen e))
  expr_seen (expr.Call' k m shape args) = ap (λ x. Node (sign.Call k m) x Absent) (exprs_seen args)
  expr_seen (expr.Super' k m shape args) = ap (λ x. Node (sign.Super k m) x Absent) (exprs_seen args)
  expr_seen (expr.Chain' p e shape links) = ap (λ t. term_after t links) (expr_seen e) ∙ links_seen (term_in (bare_expr e)) links
  expr_seen e = refl

  place_seen : (p : Place) → place_term p ≡ place_in (bare_place p)
  place_seen (place.Local k i) = refl
  place_seen (place.Static p i) = refl
  place_seen (place.Field' p q e i) = ap (λ x. Node (sign.Field p i) x Absent) (expr_seen e)
  place_seen (place.Element' p n q e f r i) =
      ap (λ x. Node (sign.Element p n f) x (term_of i)) (expr_seen e)
      ∙ ap (Node (sign.Element p n f) (term_in (bare_expr e))) (expr_seen i)
  place_seen (place.StaticElement' p n i q e) = ap (λ x. Node (sign.StaticElement p n i) x Absent) (expr_seen e)

  link_seen : (t : Term) (l : Link) → link_term t l ≡ link_around t (bare_link l)
  link_seen t (link.Binary op e) = ap (Node (sign.Binary op) t) (expr_seen e)
  link_seen t (link.And e) = ap (Node sign.And t) (expr_seen e)
  link_seen t (link.Or e) = ap (Node sign.Or t) (expr_seen e)
  link_seen t (link.Field p i) = refl
  link_seen t (link.Part k i) = refl
  link_seen t (link.Element p n i e) = ap (Node (sign.Element p n i) t) (expr_seen e)
  link_seen t (link.Size i) = refl
  link_seen t (link.Byte i e) = ap (Node (sign.Byte i) t) (expr_seen e)
  link_seen t (link.Invoke' k m shape args) = ap (Node (sign.Invoke k m) t) (exprs_seen args)
  link_seen t (link.TextCall' op shape args) = ap (Node (sign.TextCall op) t) (exprs_seen args)
  link_seen t (link.After e) = ap (Node sign.After t) (expr_seen e)

  links_seen : {n : Count} (t : Term) (ls : Row_of-Link n) → term_after t ls ≡ links_around t (bare_links ls)
  links_seen t end_of-Link = refl
  links_seen t (more_of-Link l ls) = links_seen (link_term t l) ls ∙ ap (λ x. links_around x (bare_links ls)) (link_seen t l)

  exprs_seen : {n : Count} (es : Row_of-Expr n) → args_term es ≡ terms_in (bare_exprs es)
  exprs_seen end_of-Expr = refl
  exprs_seen (more_of-Expr e es) =
      ap (λ x. Node sign.More x (args_term es)) (expr_seen e) ∙ ap (Node sign.More (term_in (bare_expr e))) (exprs_seen es)

pub same_expr : (a b : Expr) → bare_expr a ≡ bare_expr b → term_of a ≡ term_of b
same_expr a b same = expr_seen a ∙ ap term_in same ∙ sym (expr_seen b)

pub same_place : (a b : Place) → bare_place a ≡ bare_place b → place_term a ≡ place_term b
same_place a b same = place_seen a ∙ ap place_in same ∙ sym (place_seen b)

-- ---- statements

abbrev optional_in : Option BareExpr → Term
optional_in None = Absent
optional_in (Some e) = term_in e

abbrev mutual
  stmt_in : BareStmt → Term
  stmt_in bare.Empty = leaf sign.Empty
  stmt_in (bare.Do e) = Node sign.Do (term_in e) Absent
  stmt_in (bare.Begin k i e) = Node (sign.Begin k i) (optional_in e) Absent
  stmt_in (bare.Block all) = Node sign.Block (stmts_in all) Absent
  stmt_in (bare.If t a b) = Node sign.If (term_in t) (Node sign.Pair (stmt_in a) (stmt_in b))
  stmt_in (bare.While t body) = Node sign.While (term_in t) (stmt_in body)
  stmt_in (bare.DoWhile body t) = Node sign.DoWhile (stmt_in body) (term_in t)
  stmt_in (bare.For first t last body) =
      Node sign.For (Node sign.Pair (stmt_in first) (Node sign.Pair (optional_in t) (optional_in last))) (stmt_in body)
  stmt_in (bare.Switch e labels all) = Node sign.Switch (term_in e) (cases_in labels all)
  stmt_in bare.Break = leaf sign.Break
  stmt_in bare.Continue = leaf sign.Continue
  stmt_in (bare.Return e) = Node sign.Return (optional_in e) Absent

  stmts_in : BareStmts → Term
  stmts_in bare.NoStmts = Absent
  stmts_in (bare.MoreStmts x xs) = Node sign.More (stmt_in x) (stmts_in xs)

  cases_in : List Label → BareStmts → Term
  cases_in [] bare.NoStmts = Absent
  cases_in [] (bare.MoreStmts x xs) = Node sign.More (stmt_in x) (cases_in [] xs)
  cases_in (l ∷ ls) bare.NoStmts = Node (sign.Label l) Absent (cases_in ls bare.NoStmts)
  cases_in (l ∷ ls) (bare.MoreStmts x xs) = Node (sign.Label l) (stmt_in x) (cases_in ls xs)

optional_seen : (e : Option Expr) → optional_term e ≡ optional_in (bare_or e)
optional_seen None = refl
optional_seen (Some e) = expr_seen e

mutual
  stmt_seen : (x : Stmt) → stmt_term x ≡ stmt_in (bare_stmt x)
  stmt_seen (stmt.Do e) = ap (λ x. Node sign.Do x Absent) (expr_seen e)
  stmt_seen (stmt.Local k i e) = ap (λ x. Node (sign.Begin k i) x Absent) (optional_seen e)
  stmt_seen (stmt.Block' shape all) = ap (λ x. Node sign.Block x Absent) (stmts_seen all)
  stmt_seen (stmt.If' t p a q b) =
      ap (λ x. Node sign.If x (Node sign.Pair (stmt_term a) (stmt_term b))) (expr_seen t)
      ∙ ap (λ x. Node sign.If (term_in (bare_expr t)) (Node sign.Pair x (stmt_term b))) (stmt_seen a)
      ∙ ap (λ x. Node sign.If (term_in (bare_expr t)) (Node sign.Pair (stmt_in (bare_stmt a)) x)) (stmt_seen b)
  stmt_seen (stmt.While' t p body) =
      ap (λ x. Node sign.While x (stmt_term body)) (expr_seen t) ∙ ap (Node sign.While (term_in (bare_expr t))) (stmt_seen body)
  stmt_seen (stmt.DoWhile' p body t) =
      ap (λ x. Node sign.DoWhile x (term_of t)) (stmt_seen body) ∙ ap (Node sign.DoWhile (stmt_in (bare_stmt body))) (expr_seen t)
  stmt_seen (stmt.For' p first t last q body) =
      let a = stmt_in (bare_stmt first) in
      let b = optional_in (bare_or t) in
      let c = optional_in (bare_or last) in
      ap (λ x. Node sign.For (Node sign.Pair x (Node sign.Pair (optional_term t) (optional_term last))) (stmt_term body)) (stmt_seen first)
      ∙ ap (λ x. Node sign.For (Node sign.Pair a (Node sign.Pair x (optional_term last))) (stmt_term body)) (optional_seen t)
      ∙ ap (λ x. Node sign.For (Node sign.Pair a (Node sign.Pair b x)) (stmt_term body)) (optional_seen last)
      ∙ ap (Node sign.For (Node sign.Pair a (Node sign.Pair b c))) (stmt_seen body)
  stmt_seen (stmt.Switch' e labels shape all) =
      ap (λ x. Node sign.Switch x (cases_term labels.items all)) (expr_seen e)
      ∙ ap (Node sign.Switch (term_in (bare_expr e))) (cases_seen labels.items all)
  stmt_seen (stmt.Return e) = ap (λ x. Node sign.Return x Absent) (optional_seen e)
  stmt_seen x = refl

  stmts_seen : {n : Count} (all : Row_of-Stmt n) → stmts_term all ≡ stmts_in (bare_stmts all)
  stmts_seen end_of-Stmt = refl
  stmts_seen (more_of-Stmt x xs) =
      ap (λ t. Node sign.More t (stmts_term xs)) (stmt_seen x) ∙ ap (Node sign.More (stmt_in (bare_stmt x))) (stmts_seen xs)

  cases_seen : {n : Count} (ls : List Label) (all : Row_of-Stmt n) → cases_term ls all ≡ cases_in ls (bare_stmts all)
  cases_seen [] end_of-Stmt = refl
  cases_seen [] (more_of-Stmt x xs) =
      ap (λ t. Node sign.More t (cases_term [] xs)) (stmt_seen x) ∙ ap (Node sign.More (stmt_in (bare_stmt x))) (cases_seen [] xs)
  cases_seen (l ∷ ls) end_of-Stmt = ap (Node (sign.Label l) Absent) (cases_seen ls end_of-Stmt)
  cases_seen (l ∷ ls) (more_of-Stmt x xs) =
      ap (λ t. Node (sign.Label l) t (cases_term ls xs)) (stmt_seen x) ∙ ap (Node (sign.Label l) (stmt_in (bare_stmt x))) (cases_seen ls xs)

pub same_stmt : (a b : Stmt) → bare_stmt a ≡ bare_stmt b → stmt_term a ≡ stmt_term b
same_stmt a b same = stmt_seen a ∙ ap stmt_in same ∙ sym (stmt_seen b)
