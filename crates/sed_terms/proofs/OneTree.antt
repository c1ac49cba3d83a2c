-- The tree of a term: what a flat tree is, wherever it lies, is read back from its term.
use Rattle.std.proofs.Common.{◌≡◌, List, [], ◌∷◌, Option, Some, None, refl, ap, sym, ◌∙◌}
use mathlib.Core.Former.{Count}
use Rattle.sed_typed.specs.Bare as bare
use Rattle.sed_typed.specs.Bare.{BareExpr, BareExprs, BareLink, BareLinks, BarePlace, BareStmt, BareStmts, bare_expr, bare_exprs, bare_link, bare_links, bare_or, bare_place, bare_stmt, bare_stmts}
use Rattle.sed_typed.specs.Flat.{IsNoChain, HasLinks, IsFlat, IsFlatPlace, IsFlatLink, AreFlat, AreFlatLinks, IsFlatOr, IsFlatStmt, AreFlatStmts}
use Rattle.sed_typed.specs.declared.operators.Gives.{Gives}
use Rattle.sed_typed.specs.declared.operators.Gives.TheVariants.{Old, New}
use Rattle.sed_typed.specs.declared.statement.Label.{Label}
use Rattle.sed_typed.specs.declared.statement.Stmt.{Stmt, Row_of-Stmt, end_of-Stmt, more_of-Stmt}
use Rattle.sed_typed.specs.declared.statement.Stmt.TheVariants as stmt
use Rattle.sed_typed.specs.declared.tree.Expr.{Expr, Row_of-Expr, end_of-Expr, more_of-Expr, Row_of-Link, end_of-Link, more_of-Link}
use Rattle.sed_typed.specs.declared.tree.Expr.TheVariants as expr
use Rattle.sed_typed.specs.declared.tree.Link.{Link}
use Rattle.sed_typed.specs.declared.tree.Link.TheVariants as link
use Rattle.sed_typed.specs.declared.tree.Place.{Place}
use Rattle.sed_typed.specs.declared.tree.Place.TheVariants as place
use Rattle.sed_value.specs.declared.slot_type.Primitive.TheVariants as prim
use Rattle.sed_terms.specs.declared.sign.Sign.TheVariants as sign
use Rattle.sed_terms.specs.Term.{Term, Absent, Node}
use Rattle.sed_terms.specs.Seen.{term_of, place_term, operand_term, link_term, term_after, args_term, optional_term, stmt_term, stmts_term, cases_term}
use Rattle.sed_terms.proofs.StmtAgain.{IsNode, is_node}

-- ---- links behind a tree, in one chain

abbrev with_last : BareLinks → BareLink → BareLinks
with_last bare.NoLinks l = bare.MoreLinks l bare.NoLinks
with_last (bare.MoreLinks x xs) l = bare.MoreLinks x (with_last xs l)

abbrev joined : BareLinks → BareLinks → BareLinks
joined bare.NoLinks ys = ys
joined (bare.MoreLinks x xs) ys = bare.MoreLinks x (joined xs ys)

abbrev linked : BareExpr → BareLink → BareExpr
linked (bare.Chain e links) l = bare.Chain e (with_last links l)
linked e l = bare.Chain e (bare.MoreLinks l bare.NoLinks)

abbrev all_linked : {n : Count} → BareExpr → Row_of-Link n → BareExpr
all_linked x end_of-Link = x
all_linked x (more_of-Link l ls) = all_linked (linked x (bare_link l)) ls

joined_nothing : (xs : BareLinks) → joined xs bare.NoLinks ≡ xs
joined_nothing bare.NoLinks = refl
joined_nothing (bare.MoreLinks x xs) = ap (bare.MoreLinks x) (joined_nothing xs)

joined_last : (xs : BareLinks) (l : BareLink) (ys : BareLinks) → joined (with_last xs l) ys ≡ joined xs (bare.MoreLinks l ys)
joined_last bare.NoLinks l ys = refl
joined_last (bare.MoreLinks x xs) l ys = ap (bare.MoreLinks x) (joined_last xs l ys)

chain_grows : {n : Count} (e : BareExpr) (xs : BareLinks) (ls : Row_of-Link n) →
    all_linked (bare.Chain e xs) ls ≡ bare.Chain e (joined xs (bare_links ls))
chain_grows e xs end_of-Link = ap (bare.Chain e) (sym (joined_nothing xs))
chain_grows e xs (more_of-Link l ls) =
    chain_grows e (with_last xs (bare_link l)) ls ∙ ap (bare.Chain e) (joined_last xs (bare_link l) (bare_links ls))

chain_begins : (e : Expr) (l : BareLink) → IsNoChain e → linked (bare_expr e) l ≡ bare.Chain (bare_expr e) (bare.MoreLinks l bare.NoLinks)
chain_begins (expr.Chain' p e shape links) l h = absurd h
chain_begins e l h = refl

one_chain : {n : Count} (e : Expr) (ls : Row_of-Link n) → IsNoChain e → HasLinks ls → all_linked (bare_expr e) ls ≡ bare.Chain (bare_expr e) (bare_links ls)
one_chain e end_of-Link h some = absurd some
one_chain e (more_of-Link l ls) h some =
    ap (λ x. all_linked x ls) (chain_begins e (bare_link l) h)
    ∙ chain_grows (bare_expr e) (bare.MoreLinks (bare_link l) bare.NoLinks) ls

-- ---- expressions

abbrev mutual
  tree_in : Term → BareExpr
  tree_in (Node sign.Pair a b) = tree_in a
  tree_in (Node (sign.Int n) a b) = bare.Int n
  tree_in (Node (sign.Long n) a b) = bare.Long n
  tree_in (Node (sign.Bool t) a b) = bare.Truth t
  tree_in (Node (sign.Null k) a b) = bare.Null k
  tree_in (Node (sign.Text n) a b) = bare.Text n
  tree_in (Node (sign.This class) a b) = bare.This class
  tree_in (Node (sign.Local k i) a b) = bare.Local k i
  tree_in (Node (sign.Static p i) a b) = bare.Static p i
  tree_in (Node (sign.StaticPart k i) a b) = bare.StaticPart k i
  tree_in (Node (sign.StaticElement p n i) a b) = bare.StaticElement p n i (tree_in a)
  tree_in (Node (sign.Unary op) a b) = bare.Unary op (tree_in a)
  tree_in (Node sign.Choose t (Node s a b)) = bare.Choose (tree_in t) (tree_in a) (tree_in b)
  tree_in (Node sign.Set a b) = bare.Set (place_in a) (tree_in b)
  tree_in (Node (sign.Update u) a b) = bare.Update u (place_in a) (tree_in b)
  tree_in (Node (sign.Call k m) a b) = bare.Call k m (trees_in a)
  tree_in (Node (sign.Super k m) a b) = bare.Super k m (trees_in a)
  tree_in (Node (sign.Binary op) a b) = linked (tree_in a) (bare.Binary op (tree_in b))
  tree_in (Node sign.And a b) = linked (tree_in a) (bare.And (tree_in b))
  tree_in (Node sign.Or a b) = linked (tree_in a) (bare.Or (tree_in b))
  tree_in (Node (sign.Field p i) a b) = linked (tree_in a) (bare.Field p i)
  tree_in (Node (sign.Part k i) a b) = linked (tree_in a) (bare.Part k i)
  tree_in (Node (sign.Element p n i) a b) = linked (tree_in a) (bare.Element p n i (tree_in b))
  tree_in (Node (sign.Size i) a b) = linked (tree_in a) (bare.Size i)
  tree_in (Node (sign.Byte i) a b) = linked (tree_in a) (bare.Byte i (tree_in b))
  tree_in (Node (sign.Invoke k m) a b) = linked (tree_in a) (bare.Invoke k m (trees_in b))
  tree_in (Node (sign.TextCall op) a b) = linked (tree_in a) (bare.TextCall op (trees_in b))
  tree_in (Node sign.After a b) = linked (tree_in a) (bare.After (tree_in b))
  tree_in t = bare.Ticks

  place_in : Term → BarePlace
  place_in (Node (sign.Local k i) a b) = bare.LocalPlace k i
  place_in (Node (sign.Static p i) a b) = bare.StaticPlace p i
  place_in (Node (sign.Field p i) a b) = bare.FieldPlace p (tree_in a) i
  place_in (Node (sign.Element p n i) a b) = bare.ElementPlace p n (tree_in a) i (tree_in b)
  place_in (Node (sign.StaticElement p n i) a b) = bare.StaticElementPlace p n i (tree_in a)
  place_in t = bare.StaticElementPlace prim.Bool 0 0 bare.Ticks

  trees_in : Term → BareExprs
  trees_in Absent = bare.NoExprs
  trees_in (Node s a b) = bare.MoreExprs (tree_in a) (trees_in b)

operand_again : (g : Gives) (e : Expr) → tree_in (operand_term g e (term_of e)) ≡ tree_in (term_of e)
operand_again New e = refl
operand_again Old (expr.Int n) = refl
operand_again Old (expr.Long n) = refl
operand_again Old e = refl

mutual
  tree_again : (e : Expr) → IsFlat e → tree_in (term_of e) ≡ bare_expr e
  tree_again (expr.Int n) h = refl
  tree_again (expr.Long n) h = refl
  tree_again (expr.Bool t) h = refl
  tree_again (expr.Null k) h = refl
  tree_again (expr.Text n) h = refl
  tree_again (expr.This class) h = refl
  tree_again (expr.Local k i) h = refl
  tree_again (expr.Static p i) h = refl
  tree_again (expr.StaticPart k i) h = refl
  tree_again (expr.StaticElement' p n i q e) h = ap (bare.StaticElement p n i) (tree_again e h)
  tree_again expr.Ticks h = refl
  tree_again (expr.Unary' op p e) h = ap (bare.Unary op) (tree_again e h)
  tree_again (expr.Choose' p t q a r b) h =
      ap (λ x. bare.Choose x (tree_in (term_of a)) (tree_in (term_of b))) (tree_again t h.0)
      ∙ ap (λ x. bare.Choose (bare_expr t) x (tree_in (term_of b))) (tree_again a h.1)
      ∙ ap (bare.Choose (bare_expr t) (bare_expr a)) (tree_again b h.2)
  tree_again (expr.Set' target p e) h =
      ap (λ x. bare.Set x (tree_in (term_of e))) (place_again target h.0) ∙ ap (bare.Set (bare_place target)) (tree_again e h.1)
  tree_again (expr.Update' u target p e) h =
      ap (λ x. bare.Update u x (tree_in (operand_term u.gives e (term_of e)))) (place_again target h.0)
      ∙ ap (bare.Update u (bare_place target)) (operand_again u.gives e ∙ tree_again e h.1)
  tree_again (expr.Call' k m shape args) h = ap (bare.Call k m) (trees_again args h)
  tree_again (expr.Super' k m shape args) h = ap (bare.Super k m) (trees_again args h)
  tree_again (expr.Chain' p e shape links) h =
      links_again (term_of e) links h.3 ∙ ap (λ x. all_linked x links) (tree_again e h.1) ∙ one_chain e links h.0 h.2

  place_again : (p : Place) → IsFlatPlace p → place_in (place_term p) ≡ bare_place p
  place_again (place.Local k i) h = refl
  place_again (place.Static p i) h = refl
  place_again (place.Field' p q e i) h = ap (λ x. bare.FieldPlace p x i) (tree_again e h)
  place_again (place.Element' p n q e f r i) h =
      ap (λ x. bare.ElementPlace p n x f (tree_in (term_of i))) (tree_again e h.0)
      ∙ ap (bare.ElementPlace p n (bare_expr e) f) (tree_again i h.1)
  place_again (place.StaticElement' p n i q e) h = ap (bare.StaticElementPlace p n i) (tree_again e h)

  link_again : (t : Term) (l : Link) → IsFlatLink l → tree_in (link_term t l) ≡ linked (tree_in t) (bare_link l)
  link_again t (link.Binary op e) h = ap (λ x. linked (tree_in t) (bare.Binary op x)) (tree_again e h)
  link_again t (link.And e) h = ap (λ x. linked (tree_in t) (bare.And x)) (tree_again e h)
  link_again t (link.Or e) h = ap (λ x. linked (tree_in t) (bare.Or x)) (tree_again e h)
  link_again t (link.Field p i) h = refl
  link_again t (link.Part k i) h = refl
  link_again t (link.Element p n i e) h = ap (λ x. linked (tree_in t) (bare.Element p n i x)) (tree_again e h)
  link_again t (link.Size i) h = refl
  link_again t (link.Byte i e) h = ap (λ x. linked (tree_in t) (bare.Byte i x)) (tree_again e h)
  link_again t (link.Invoke' k m shape args) h = ap (λ x. linked (tree_in t) (bare.Invoke k m x)) (trees_again args h)
  link_again t (link.TextCall' op shape args) h = ap (λ x. linked (tree_in t) (bare.TextCall op x)) (trees_again args h)
  link_again t (link.After e) h = ap (λ x. linked (tree_in t) (bare.After x)) (tree_again e h)

  links_again : {n : Count} (t : Term) (ls : Row_of-Link n) → AreFlatLinks ls → tree_in (term_after t ls) ≡ all_linked (tree_in t) ls
  links_again t end_of-Link h = refl
  links_again t (more_of-Link l ls) h = links_again (link_term t l) ls h.1 ∙ ap (λ x. all_linked x ls) (link_again t l h.0)

  trees_again : {n : Count} (es : Row_of-Expr n) → AreFlat es → trees_in (args_term es) ≡ bare_exprs es
  trees_again end_of-Expr h = refl
  trees_again (more_of-Expr e es) h =
      ap (λ x. bare.MoreExprs x (trees_in (args_term es))) (tree_again e h.0) ∙ ap (bare.MoreExprs (bare_expr e)) (trees_again es h.1)

pub one_tree : (a b : Expr) → IsFlat a → IsFlat b → term_of a ≡ term_of b → bare_expr a ≡ bare_expr b
one_tree a b flat also same = sym (tree_again a flat) ∙ ap tree_in same ∙ tree_again b also

pub one_place : (a b : Place) → IsFlatPlace a → IsFlatPlace b → place_term a ≡ place_term b → bare_place a ≡ bare_place b
one_place a b flat also same = sym (place_again a flat) ∙ ap place_in same ∙ place_again b also

-- ---- statements

-- what may be missing, by whether there is a node
abbrev optional_there : Term → BareExpr → Option BareExpr
optional_there Absent x = None
optional_there (Node s a b) x = Some x

abbrev block_there : Term → BareStmt → BareStmts → BareStmts
block_there Absent x xs = xs
block_there (Node s a b) x xs = bare.MoreStmts x xs

abbrev optional_in : Term → Option BareExpr
optional_in t = optional_there t (tree_in t)

abbrev labels_in : Term → List Label
labels_in (Node (sign.Label l) a b) = l ∷ labels_in b
labels_in t = []

abbrev mutual
  stmt_in : Term → BareStmt
  stmt_in (Node sign.Do a b) = bare.Do (tree_in a)
  stmt_in (Node (sign.Begin k i) a b) = bare.Begin k i (optional_in a)
  stmt_in (Node sign.Block a b) = bare.Block (blocks_in a)
  stmt_in (Node sign.If t (Node s a b)) = bare.If (tree_in t) (stmt_in a) (stmt_in b)
  stmt_in (Node sign.While a b) = bare.While (tree_in a) (stmt_in b)
  stmt_in (Node sign.DoWhile a b) = bare.DoWhile (stmt_in a) (tree_in b)
  stmt_in (Node sign.For (Node s first (Node r t last)) body) = bare.For (stmt_in first) (optional_in t) (optional_in last) (stmt_in body)
  stmt_in (Node sign.Switch a b) = bare.Switch (tree_in a) (labels_in b) (blocks_in b)
  stmt_in (Node sign.Break a b) = bare.Break
  stmt_in (Node sign.Continue a b) = bare.Continue
  stmt_in (Node sign.Return a b) = bare.Return (optional_in a)
  stmt_in t = bare.Empty

  -- those of a row, or behind labels
  blocks_in : Term → BareStmts
  blocks_in Absent = bare.NoStmts
  blocks_in (Node s a b) = block_there a (stmt_in a) (blocks_in b)

is_stmt_node : (x : Stmt) → IsNode (stmt_term x)
is_stmt_node (stmt.Do e) = tt
is_stmt_node x = tt

is_there : (t : Term) (x : BareExpr) → IsNode t → optional_there t x ≡ Some x
is_there Absent x h = absurd h
is_there (Node s a b) x h = refl

block_is_there : (t : Term) (x : BareStmt) (xs : BareStmts) → IsNode t → block_there t x xs ≡ bare.MoreStmts x xs
block_is_there Absent x xs h = absurd h
block_is_there (Node s a b) x xs h = refl

optional_again : (e : Option Expr) → IsFlatOr e → optional_in (optional_term e) ≡ bare_or e
optional_again None h = refl
optional_again (Some e) h = is_there (term_of e) (tree_in (term_of e)) (is_node e) ∙ ap Some (tree_again e h)

labels_again : {n : Count} (ls : List Label) (all : Row_of-Stmt n) → labels_in (cases_term ls all) ≡ ls
labels_again [] end_of-Stmt = refl
labels_again [] (more_of-Stmt x xs) = refl
labels_again (l ∷ ls) end_of-Stmt = ap (λ ks. l ∷ ks) (labels_again ls end_of-Stmt)
labels_again (l ∷ ls) (more_of-Stmt x xs) = ap (λ ks. l ∷ ks) (labels_again ls xs)

more_again : (t : Term) (a b : BareStmt) (xs ys : BareStmts) → IsNode t → a ≡ b → xs ≡ ys → block_there t a xs ≡ bare.MoreStmts b ys
more_again t a b xs ys h one rest =
    block_is_there t a xs h ∙ ap (λ x. bare.MoreStmts x xs) one ∙ ap (bare.MoreStmts b) rest

mutual
  stmt_again : (x : Stmt) → IsFlatStmt x → stmt_in (stmt_term x) ≡ bare_stmt x
  stmt_again stmt.Empty h = refl
  stmt_again (stmt.Do e) h = ap bare.Do (tree_again e h)
  stmt_again (stmt.Local k i e) h = ap (bare.Begin k i) (optional_again e h)
  stmt_again (stmt.Block' shape all) h = ap bare.Block (stmts_again all h)
  stmt_again (stmt.If' t p a q b) h =
      ap (λ x. bare.If x (stmt_in (stmt_term a)) (stmt_in (stmt_term b))) (tree_again t h.0)
      ∙ ap (λ x. bare.If (bare_expr t) x (stmt_in (stmt_term b))) (stmt_again a h.1)
      ∙ ap (bare.If (bare_expr t) (bare_stmt a)) (stmt_again b h.2)
  stmt_again (stmt.While' t p body) h =
      ap (λ x. bare.While x (stmt_in (stmt_term body))) (tree_again t h.0) ∙ ap (bare.While (bare_expr t)) (stmt_again body h.1)
  stmt_again (stmt.DoWhile' p body t) h =
      ap (λ x. bare.DoWhile x (tree_in (term_of t))) (stmt_again body h.0) ∙ ap (bare.DoWhile (bare_stmt body)) (tree_again t h.1)
  stmt_again (stmt.For' p first t last q body) h =
      ap (λ x. bare.For x (optional_in (optional_term t)) (optional_in (optional_term last)) (stmt_in (stmt_term body))) (stmt_again first h.0)
      ∙ ap (λ x. bare.For (bare_stmt first) x (optional_in (optional_term last)) (stmt_in (stmt_term body))) (optional_again t h.1)
      ∙ ap (λ x. bare.For (bare_stmt first) (bare_or t) x (stmt_in (stmt_term body))) (optional_again last h.2)
      ∙ ap (bare.For (bare_stmt first) (bare_or t) (bare_or last)) (stmt_again body h.3)
  stmt_again (stmt.Switch' e labels shape all) h =
      let cases = cases_term labels.items all in
      ap (λ x. bare.Switch x (labels_in cases) (blocks_in cases)) (tree_again e h.0)
      ∙ ap (λ x. bare.Switch (bare_expr e) x (blocks_in cases)) (labels_again labels.items all)
      ∙ ap (bare.Switch (bare_expr e) labels.items) (cases_again labels.items all h.1)
  stmt_again stmt.Break h = refl
  stmt_again stmt.Continue h = refl
  stmt_again (stmt.Return e) h = ap bare.Return (optional_again e h)

  stmts_again : {n : Count} (all : Row_of-Stmt n) → AreFlatStmts all → blocks_in (stmts_term all) ≡ bare_stmts all
  stmts_again end_of-Stmt h = refl
  stmts_again (more_of-Stmt x xs) h =
      more_again (stmt_term x) (stmt_in (stmt_term x)) (bare_stmt x) (blocks_in (stmts_term xs)) (bare_stmts xs) (is_stmt_node x)
      (stmt_again x h.0) (stmts_again xs h.1)

  cases_again : {n : Count} (ls : List Label) (all : Row_of-Stmt n) → AreFlatStmts all → blocks_in (cases_term ls all) ≡ bare_stmts all
  cases_again [] end_of-Stmt h = refl
  cases_again [] (more_of-Stmt x xs) h =
      more_again (stmt_term x) (stmt_in (stmt_term x)) (bare_stmt x) (blocks_in (cases_term [] xs)) (bare_stmts xs) (is_stmt_node x)
      (stmt_again x h.0) (cases_again [] xs h.1)
  cases_again (l ∷ ls) end_of-Stmt h = cases_again ls end_of-Stmt h
  cases_again (l ∷ ls) (more_of-Stmt x xs) h =
      more_again (stmt_term x) (stmt_in (stmt_term x)) (bare_stmt x) (blocks_in (cases_term ls xs)) (bare_stmts xs) (is_stmt_node x)
      (stmt_again x h.0) (cases_again ls xs h.1)

pub one_stmt : (a b : Stmt) → IsFlatStmt a → IsFlatStmt b → stmt_term a ≡ stmt_term b → bare_stmt a ≡ bare_stmt b
one_stmt a b flat also same = sym (stmt_again a flat) ∙ ap stmt_in same ∙ stmt_again b also
