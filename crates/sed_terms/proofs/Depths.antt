-- Trees nest as deep as their terms, and declare the same locals.
use Rattle.std.proofs.Common.{◌≡◌, ℕ, suc, max, List, [], ◌∷◌, ◌++◌, Option, Some, None, refl, sym, ap, ◌∙◌, arith}
use Rattle.std.proofs.Math.Nat.{max-zero}
use mathlib.Core.Former.{Count}
use Rattle.sed_typed.specs.declared.operators.Gives.{Gives}
use Rattle.sed_typed.specs.declared.operators.Gives.TheVariants.{Old, New}
use Rattle.sed_typed.specs.declared.statement.Label.{Label}
use Rattle.sed_typed.specs.declared.statement.Stmt.{Stmt, Row_of-Stmt, end_of-Stmt, more_of-Stmt}
use Rattle.sed_typed.specs.declared.statement.Stmt.TheVariants as stmt
use Rattle.sed_typed.specs.declared.tree.Expr.{Expr, Row_of-Expr, end_of-Expr, more_of-Expr, Row_of-Link, end_of-Link, more_of-Link}
use Rattle.sed_typed.specs.declared.tree.Expr.TheVariants as expr
use Rattle.sed_typed.specs.declared.tree.Link.{Link}
use Rattle.sed_typed.specs.declared.tree.Link.TheVariants as link
use Rattle.sed_typed.specs.declared.tree.Place.{Place}
use Rattle.sed_typed.specs.declared.tree.Place.TheVariants as place
use Rattle.sed_typed.specs.Depth.{depth_of, place_depth, link_depth, depths_of, links_depth, depth_or, unary_depth, value_depth, stmt_depth, stmts_depth, block_depth, cases_depth, body_depth}
use Rattle.sed_typed.specs.Locals.{declared_in, all_declared_in}
use Rattle.sed_terms.specs.declared.sign.Sign.{Sign}
use Rattle.sed_terms.specs.declared.sign.Sign.TheVariants as sign
use Rattle.sed_terms.specs.Term.{Term, Node}
use Rattle.sed_terms.specs.Seen.{term_of, place_term, operand_term, link_term, term_after, args_term, optional_term, stmt_term, stmts_term, cases_term}
use Rattle.sed_terms.specs.TermDepth.{term_depth, stmt_term_depth, stmts_term_depth, block_term_depth, cases_term_depth, body_term_depth, declared_term}

max_three : (a b c : ℕ) → max (max a b) c ≡ max a (max b c)
max_three a b c = omega arith

max_both : {a b x y : ℕ} → a ≡ x → b ≡ y → max a b ≡ max x y
max_both {a} {b} {x} {y} p q = ap (λ z. max z b) p ∙ ap (λ z. max x z) q

operand_depth : (g : Gives) (e : Expr) (t : Term) → term_depth (operand_term g e t) ≡ term_depth t
operand_depth New e t = refl
operand_depth Old (expr.Int n) t = refl
operand_depth Old (expr.Long n) t = refl
operand_depth Old e t = max-zero (term_depth t)

mutual
  pub depth_again : (e : Expr) → term_depth (term_of e) ≡ depth_of e
  depth_again (expr.Int n) = refl
  depth_again (expr.Long n) = refl
  depth_again (expr.Bool t) = refl
  depth_again (expr.Null k) = refl
  depth_again (expr.Text n) = refl
  depth_again (expr.This class) = refl
  depth_again (expr.Local k i) = refl
  depth_again (expr.Static p i) = refl
  depth_again (expr.StaticPart k i) = refl
  depth_again (expr.StaticElement' p n i q e) = ap suc (depth_again e)
  depth_again expr.Ticks = refl
  depth_again (expr.Unary' op p e) = ap (unary_depth op) (depth_again e)
  depth_again (expr.Choose' p t q a r b) = max_both (depth_again t) (ap suc (max_both (depth_again a) (depth_again b)))
  depth_again (expr.Set' target p e) = max_both (place_depth_again target) (ap suc (depth_again e))
  depth_again (expr.Update' u target p e) = max_both (place_depth_again target) (ap (value_depth u.gives) (operand_depth u.gives e (term_of e) ∙ depth_again e))
  depth_again (expr.Call' k m shape args) = depths_again args
  depth_again (expr.Super' k m shape args) = depths_again args
  depth_again (expr.Chain' p e shape links) = links_depth_again (term_of e) links ∙ ap (λ z. max z (links_depth links)) (depth_again e)

  place_depth_again : (p : Place) → term_depth (place_term p) ≡ place_depth p
  place_depth_again (place.Local k i) = refl
  place_depth_again (place.Static p i) = refl
  place_depth_again (place.Field' p q e i) = depth_again e
  place_depth_again (place.Element' p n q e f r i) = max_both (depth_again e) (ap suc (depth_again i))
  place_depth_again (place.StaticElement' p n i q e) = ap suc (depth_again e)

  link_depth_again : (t : Term) (l : Link) → term_depth (link_term t l) ≡ max (term_depth t) (link_depth l)
  link_depth_again t (link.Binary op e) = ap (λ z. max (term_depth t) z) (depth_again e)
  link_depth_again t (link.And e) = ap (λ z. max (term_depth t) z) (depth_again e)
  link_depth_again t (link.Or e) = ap (λ z. max (term_depth t) z) (depth_again e)
  link_depth_again t (link.Field p i) = sym (max-zero (term_depth t))
  link_depth_again t (link.Part k i) = sym (max-zero (term_depth t))
  link_depth_again t (link.Element p n i e) = ap (λ z. max (term_depth t) (suc z)) (depth_again e)
  link_depth_again t (link.Size i) = sym (max-zero (term_depth t))
  link_depth_again t (link.Byte i e) = ap (λ z. max (term_depth t) (suc z)) (depth_again e)
  link_depth_again t (link.Invoke' k m shape args) = ap (λ z. max (term_depth t) z) (depths_again args)
  link_depth_again t (link.TextCall' op shape args) = ap (λ z. max (term_depth t) z) (depths_again args)
  link_depth_again t (link.After e) = ap (λ z. max (term_depth t) z) (depth_again e)

  links_depth_again : {n : Count} (t : Term) (ls : Row_of-Link n) → term_depth (term_after t ls) ≡ max (term_depth t) (links_depth ls)
  links_depth_again t end_of-Link = sym (max-zero (term_depth t))
  links_depth_again t (more_of-Link l ls) =
      links_depth_again (link_term t l) ls ∙ ap (λ z. max z (links_depth ls)) (link_depth_again t l)
      ∙ max_three (term_depth t) (link_depth l) (links_depth ls)

  depths_again : {n : Count} (es : Row_of-Expr n) → term_depth (args_term es) ≡ depths_of es
  depths_again end_of-Expr = refl
  depths_again (more_of-Expr e es) = max_both (ap suc (depth_again e)) (depths_again es)

optional_depth : (e : Option Expr) → term_depth (optional_term e) ≡ depth_or e
optional_depth None = refl
optional_depth (Some e) = depth_again e

-- a label's part that is no block
abbrev IsNoBlock : Stmt → Type 0
IsNoBlock (stmt.Block' shape all) = ⊥
IsNoBlock x = Unit {0}

other_case : (s : Sign) {n : Count} (x : Stmt) (xs : Row_of-Stmt n) (rest : Term) → IsNoBlock x → stmt_term_depth (stmt_term x) ≡ stmt_depth x →
    cases_term_depth rest ≡ cases_depth xs → cases_term_depth (Node s (stmt_term x) rest) ≡ cases_depth (more_of-Stmt x xs)
other_case s (stmt.Block' shape all) xs rest h p q = absurd h
other_case s stmt.Empty xs rest h p q = max_both p q
other_case s (stmt.Do e) xs rest h p q = max_both p q
other_case s (stmt.Local k i e) xs rest h p q = max_both p q
other_case s (stmt.If' t r a u b) xs rest h p q = max_both p q
other_case s (stmt.While' t r body) xs rest h p q = max_both p q
other_case s (stmt.DoWhile' r body t) xs rest h p q = max_both p q
other_case s (stmt.For' r first t last u body) xs rest h p q = max_both p q
other_case s (stmt.Switch' e labels shape all) xs rest h p q = max_both p q
other_case s stmt.Break xs rest h p q = max_both p q
other_case s stmt.Continue xs rest h p q = max_both p q
other_case s (stmt.Return e) xs rest h p q = max_both p q

mutual
  pub stmt_depth_again : (s : Stmt) → stmt_term_depth (stmt_term s) ≡ stmt_depth s
  stmt_depth_again stmt.Empty = refl
  stmt_depth_again (stmt.Do e) = depth_again e
  stmt_depth_again (stmt.Local k i e) = optional_depth e
  stmt_depth_again (stmt.Block' shape all) = block_depth_again all
  stmt_depth_again (stmt.If' t p a q b) = ap suc (max_both (depth_again t) (max_both (stmt_depth_again a) (stmt_depth_again b)))
  stmt_depth_again (stmt.While' t p body) = ap suc (max_both (depth_again t) (stmt_depth_again body))
  stmt_depth_again (stmt.DoWhile' p body t) = ap suc (max_both (depth_again t) (stmt_depth_again body))
  stmt_depth_again (stmt.For' p first t last q body) =
      ap suc (max_both (max_both (stmt_depth_again first) (max_both (optional_depth t) (optional_depth last))) (stmt_depth_again body))
  stmt_depth_again (stmt.Switch' e labels shape all) = ap suc (max_both (depth_again e) (cases_depth_again labels.items all))
  stmt_depth_again stmt.Break = refl
  stmt_depth_again stmt.Continue = refl
  stmt_depth_again (stmt.Return e) = optional_depth e

  stmts_depth_again : {n : Count} (all : Row_of-Stmt n) → stmts_term_depth (stmts_term all) ≡ stmts_depth all
  stmts_depth_again end_of-Stmt = refl
  stmts_depth_again (more_of-Stmt x xs) = max_both (stmt_depth_again x) (stmts_depth_again xs)

  block_depth_again : {n : Count} (all : Row_of-Stmt n) → block_term_depth (stmts_term all) ≡ block_depth all
  block_depth_again end_of-Stmt = refl
  block_depth_again (more_of-Stmt x xs) = ap suc (max_both (stmt_depth_again x) (stmts_depth_again xs))

  cases_depth_again : {n : Count} (ls : List Label) (all : Row_of-Stmt n) → cases_term_depth (cases_term ls all) ≡ cases_depth all
  cases_depth_again [] end_of-Stmt = refl
  cases_depth_again [] (more_of-Stmt (stmt.Block' shape all) xs) = max_both (stmts_depth_again all) (cases_depth_again [] xs)
  cases_depth_again [] (more_of-Stmt x xs) = other_case sign.More x xs (cases_term [] xs) tt (stmt_depth_again x) (cases_depth_again [] xs)
  cases_depth_again (l ∷ ls) end_of-Stmt = ap (λ z. max 0 z) (cases_depth_again ls end_of-Stmt)
  cases_depth_again (l ∷ ls) (more_of-Stmt (stmt.Block' shape all) xs) = max_both (stmts_depth_again all) (cases_depth_again ls xs)
  cases_depth_again (l ∷ ls) (more_of-Stmt x xs) =
      other_case (sign.Label l) x xs (cases_term ls xs) tt (stmt_depth_again x) (cases_depth_again ls xs)

pub body_depth_again : (s : Stmt) → body_term_depth (stmt_term s) ≡ body_depth s
body_depth_again (stmt.Block' shape all) = stmts_depth_again all
body_depth_again stmt.Empty = refl
body_depth_again (stmt.Do e) = stmt_depth_again (stmt.Do e)
body_depth_again (stmt.Local k i e) = stmt_depth_again (stmt.Local k i e)
body_depth_again (stmt.If' t p a q b) = stmt_depth_again (stmt.If' t p a q b)
body_depth_again (stmt.While' t p body) = stmt_depth_again (stmt.While' t p body)
body_depth_again (stmt.DoWhile' p body t) = stmt_depth_again (stmt.DoWhile' p body t)
body_depth_again (stmt.For' p first t last q body) = stmt_depth_again (stmt.For' p first t last q body)
body_depth_again (stmt.Switch' e labels shape all) = stmt_depth_again (stmt.Switch' e labels shape all)
body_depth_again stmt.Break = refl
body_depth_again stmt.Continue = refl
body_depth_again (stmt.Return e) = stmt_depth_again (stmt.Return e)

-- ---- declarations

mutual
  pub declared_again : (s : Stmt) → declared_term (stmt_term s) ≡ declared_in s
  declared_again stmt.Empty = refl
  declared_again (stmt.Do e) = refl
  declared_again (stmt.Local k i e) = refl
  declared_again (stmt.Block' shape all) = all_declared_again all
  declared_again (stmt.If' t p a q b) = ap (λ ds. ds ++ declared_term (stmt_term b)) (declared_again a) ∙ ap (λ ds. declared_in a ++ ds) (declared_again b)
  declared_again (stmt.While' t p body) = declared_again body
  declared_again (stmt.DoWhile' p body t) = declared_again body
  declared_again (stmt.For' p first t last q body) =
      ap (λ ds. ds ++ declared_term (stmt_term body)) (declared_again first) ∙ ap (λ ds. declared_in first ++ ds) (declared_again body)
  declared_again (stmt.Switch' e labels shape all) = cases_declared_again labels.items all
  declared_again stmt.Break = refl
  declared_again stmt.Continue = refl
  declared_again (stmt.Return e) = refl

  all_declared_again : {n : Count} (all : Row_of-Stmt n) → declared_term (stmts_term all) ≡ all_declared_in all
  all_declared_again end_of-Stmt = refl
  all_declared_again (more_of-Stmt x xs) =
      ap (λ ds. ds ++ declared_term (stmts_term xs)) (declared_again x) ∙ ap (λ ds. declared_in x ++ ds) (all_declared_again xs)

  cases_declared_again : {n : Count} (ls : List Label) (all : Row_of-Stmt n) → declared_term (cases_term ls all) ≡ all_declared_in all
  cases_declared_again [] end_of-Stmt = refl
  cases_declared_again [] (more_of-Stmt x xs) =
      ap (λ ds. ds ++ declared_term (cases_term [] xs)) (declared_again x) ∙ ap (λ ds. declared_in x ++ ds) (cases_declared_again [] xs)
  cases_declared_again (l ∷ ls) end_of-Stmt = cases_declared_again ls end_of-Stmt
  cases_declared_again (l ∷ ls) (more_of-Stmt x xs) =
      ap (λ ds. ds ++ declared_term (cases_term ls xs)) (declared_again x) ∙ ap (λ ds. declared_in x ++ ds) (cases_declared_again ls xs)
