-- How many bytes the code of a tree has, by the tree without its places in memory: trees that are the same wherever they
-- lie have code of one size.
use Rattle.std.proofs.Common.{◌≡◌, ◌∙◌, ℕ, ◌+◌, Bool, if◌then◌else◌, Option, Some, None, refl, sym}
use mathlib.Core.Former.{Count}
use Rattle.sed_typed.specs.Bare as bare
use Rattle.sed_typed.specs.Bare.{BareExpr, BareExprs, BareLink, BareLinks, BarePlace, BareStmt, BareStmts, bare_expr, bare_exprs, bare_link, bare_links, bare_or, bare_place, bare_stmt, bare_stmts}
use Rattle.sed_typed.specs.declared.kind.Kind.{Kind}
use Rattle.sed_typed.specs.declared.kind.Kind.TheVariants as kind
use Rattle.sed_typed.specs.declared.operators.Gives.{Gives}
use Rattle.sed_typed.specs.declared.operators.Gives.TheVariants.{Old, New}
use Rattle.sed_typed.specs.declared.statement.Stmt.{Stmt, Row_of-Stmt, end_of-Stmt, more_of-Stmt}
use Rattle.sed_typed.specs.declared.statement.Stmt.TheVariants as stmt
use Rattle.sed_typed.specs.declared.tree.Expr.{Expr, Row_of-Expr, end_of-Expr, more_of-Expr, Row_of-Link, end_of-Link, more_of-Link}
use Rattle.sed_typed.specs.declared.tree.Expr.TheVariants as expr
use Rattle.sed_typed.specs.declared.tree.Link.{Link}
use Rattle.sed_typed.specs.declared.tree.Link.TheVariants as link
use Rattle.sed_typed.specs.declared.tree.Place.{Place}
use Rattle.sed_typed.specs.declared.tree.Place.TheVariants as place
use Rattle.sed_typed.specs.Kinds.{binary_kind, kind_after, kind_of, link_kind, place_kind, read_kind, text_kind, unary_kind}
use Rattle.scode_emit.specs.declared.storage.Storage.{Storage}
use Rattle.scode_emit.specs.declared.storage.Storage.TheVariants.{InLocal, InField, InElement}
use Rattle.scode_emit.specs.Site.{Site, is_virtual}
use Rattle.scode_emit.specs.Instructions.{unary_size, pop_size, zero_size, invoke_size, storage, put_size, keep_size, fetch_size, before_size, behind_size}
use Rattle.scode_emit.specs.Sizes.{begin_size, drop_size, expr_size, exprs_size, last_size, link_size, links_size, over_size, place_size, stmt_size, stmts_size, test_size, tests_size}

-- ---- kinds

abbrev place_kind_in : BarePlace → Kind
place_kind_in (bare.LocalPlace k i) = k
place_kind_in (bare.StaticPlace p i) = read_kind p
place_kind_in (bare.FieldPlace p e i) = read_kind p
place_kind_in (bare.ElementPlace p n e f i) = read_kind p
place_kind_in (bare.StaticElementPlace p n i e) = read_kind p

abbrev mutual
  kind_in : BareExpr → Kind
  kind_in (bare.Int n) = kind.Int
  kind_in (bare.Long n) = kind.Long
  kind_in (bare.Truth t) = kind.Bool
  kind_in (bare.Null k) = k
  kind_in (bare.Text n) = kind.Text
  kind_in (bare.This class) = kind.Object class
  kind_in (bare.Local k i) = k
  kind_in (bare.Static p i) = read_kind p
  kind_in (bare.StaticPart k i) = k
  kind_in (bare.StaticElement p n i e) = read_kind p
  kind_in bare.Ticks = kind.Long
  kind_in (bare.Unary op e) = unary_kind op
  kind_in (bare.Choose t a b) = kind_in a
  kind_in (bare.Set target e) = place_kind_in target
  kind_in (bare.Update u target e) = place_kind_in target
  kind_in (bare.Call k m args) = k
  kind_in (bare.Super k m args) = k
  kind_in (bare.Chain e links) = kind_behind (kind_in e) links

  link_kind_in : BareLink → Kind
  link_kind_in (bare.Binary op e) = binary_kind op
  link_kind_in (bare.And e) = kind.Bool
  link_kind_in (bare.Or e) = kind.Bool
  link_kind_in (bare.Field p i) = read_kind p
  link_kind_in (bare.Part k i) = k
  link_kind_in (bare.Element p n i e) = read_kind p
  link_kind_in (bare.Size i) = kind.Int
  link_kind_in (bare.Byte i e) = kind.Int
  link_kind_in (bare.Invoke k m args) = k
  link_kind_in (bare.TextCall op args) = text_kind op
  link_kind_in (bare.After e) = kind_in e

  kind_behind : Kind → BareLinks → Kind
  kind_behind k bare.NoLinks = k
  kind_behind k (bare.MoreLinks l ls) = kind_behind (link_kind_in l) ls

place_kind_seen : (p : Place) → place_kind p ≡ place_kind_in (bare_place p)
place_kind_seen (place.Local k i) = refl
place_kind_seen (place.Static p i) = refl
place_kind_seen (place.Field' p q e i) = refl
place_kind_seen (place.Element' p n q e f r i) = refl
place_kind_seen (place.StaticElement' p n i q e) = refl

mutual
  kind_seen : (e : Expr) → kind_of e ≡ kind_in (bare_expr e)
  kind_seen (expr.Choose' p t q a r b) = kind_seen a
  kind_seen (expr.Set' target p e) = place_kind_seen target
  kind_seen (expr.Update' u target p e) = place_kind_seen target
  kind_seen (expr.Chain' p e shape links) = after_seen (kind_of e) links ∙ (λ i. kind_behind (kind_seen e i) (bare_links links))
  kind_seen e = refl

  link_kind_seen : (l : Link) → link_kind l ≡ link_kind_in (bare_link l)
  link_kind_seen (link.After e) = kind_seen e
  link_kind_seen l = refl

  after_seen : {n : Count} (k : Kind) (ls : Row_of-Link n) → kind_after k ls ≡ kind_behind k (bare_links ls)
  after_seen k end_of-Link = refl
  after_seen k (more_of-Link l ls) = after_seen (link_kind l) ls ∙ (λ i. kind_behind (link_kind_seen l i) (bare_links ls))

-- ---- what is stored where, but for its offset

abbrev storage_in : BarePlace → Storage
storage_in (bare.LocalPlace k i) = InLocal i
storage_in (bare.StaticPlace p i) = InField p 0
storage_in (bare.FieldPlace p e i) = InField p 0
storage_in (bare.ElementPlace p n e f i) = InElement p 0 n
storage_in (bare.StaticElementPlace p n i e) = InElement p 0 n

put_seen : (w : Site) (p : Place) → put_size (storage w p) ≡ put_size (storage_in (bare_place p))
put_seen w (place.Local k i) = refl
put_seen w (place.Static p i) = refl
put_seen w (place.Field' p q e i) = refl
put_seen w (place.Element' p n q e f r i) = refl
put_seen w (place.StaticElement' p n i q e) = refl

keep_seen : (w : Site) (p : Place) → keep_size (storage w p) ≡ keep_size (storage_in (bare_place p))
keep_seen w (place.Local k i) = refl
keep_seen w (place.Static p i) = refl
keep_seen w (place.Field' p q e i) = refl
keep_seen w (place.Element' p n q e f r i) = refl
keep_seen w (place.StaticElement' p n i q e) = refl

fetch_seen : (w : Site) (p : Place) → fetch_size (storage w p) ≡ fetch_size (storage_in (bare_place p))
fetch_seen w (place.Local k i) = refl
fetch_seen w (place.Static p i) = refl
fetch_seen w (place.Field' p q e i) = refl
fetch_seen w (place.Element' p n q e f r i) = refl
fetch_seen w (place.StaticElement' p n i q e) = refl

before_seen : (w : Site) (g : Gives) (p : Place) → before_size g (storage w p) ≡ before_size g (storage_in (bare_place p))
before_seen w Old (place.Local k i) = refl
before_seen w Old (place.Static p i) = refl
before_seen w Old (place.Field' p q e i) = refl
before_seen w Old (place.Element' p n q e f r i) = refl
before_seen w Old (place.StaticElement' p n i q e) = refl
before_seen w New p = fetch_seen w p

behind_seen : (w : Site) (g : Gives) (p : Place) → behind_size g (storage w p) ≡ behind_size g (storage_in (bare_place p))
behind_seen w Old (place.Local k i) = refl
behind_seen w Old (place.Static p i) = refl
behind_seen w Old (place.Field' p q e i) = refl
behind_seen w Old (place.Element' p n q e f r i) = refl
behind_seen w Old (place.StaticElement' p n i q e) = refl
behind_seen w New p = keep_seen w p

-- ---- expressions, where the methods with these numbers are virtual

abbrev mutual
  size_in : (ℕ → Bool) → BareExpr → ℕ
  size_in v (bare.Int n) = 5
  size_in v (bare.Long n) = 9
  size_in v (bare.Truth t) = 2
  size_in v (bare.Null k) = 1
  size_in v (bare.Text n) = 3
  size_in v (bare.This class) = 2
  size_in v (bare.Local k i) = 2
  size_in v (bare.Static p i) = 4
  size_in v (bare.StaticPart k i) = 6
  size_in v (bare.StaticElement p n i e) = 1 + size_in v e + 5
  size_in v bare.Ticks = 1
  size_in v (bare.Unary u e) = size_in v e + unary_size u
  size_in v (bare.Choose t a b) = size_in v t + 3 + size_in v a + 3 + size_in v b
  size_in v (bare.Set target e) = place_size_in v target + size_in v e + keep_size (storage_in target)
  size_in v (bare.Update u target e) =
      place_size_in v target + before_size u.gives (storage_in target) + size_in v e + 1 + behind_size u.gives (storage_in target)
  size_in v (bare.Call k m args) = sizes_in v args + 3
  size_in v (bare.Super k m args) = 2 + sizes_in v args + 3
  size_in v (bare.Chain e links) = size_in v e + links_in v (kind_in e) links

  place_size_in : (ℕ → Bool) → BarePlace → ℕ
  place_size_in v (bare.LocalPlace k i) = 0
  place_size_in v (bare.StaticPlace p i) = 1
  place_size_in v (bare.FieldPlace p e i) = size_in v e
  place_size_in v (bare.ElementPlace p n e f i) = size_in v e + size_in v i
  place_size_in v (bare.StaticElementPlace p n i e) = 1 + size_in v e

  link_in : (ℕ → Bool) → Kind → BareLink → ℕ
  link_in v k (bare.Binary b e) = size_in v e + 1
  link_in v k (bare.And e) = 3 + size_in v e + 7
  link_in v k (bare.Or e) = 3 + size_in v e + 7
  link_in v k (bare.Field p i) = 3
  link_in v k (bare.Part part i) = 5
  link_in v k (bare.Element p n i e) = size_in v e + 5
  link_in v k (bare.Size i) = 3
  link_in v k (bare.Byte i e) = size_in v e + 5
  link_in v k (bare.Invoke result m args) = sizes_in v args + (if v m then 4 else 3)
  link_in v k (bare.TextCall call args) = sizes_in v args + 1
  link_in v k (bare.After e) = pop_size k + size_in v e

  sizes_in : (ℕ → Bool) → BareExprs → ℕ
  sizes_in v bare.NoExprs = 0
  sizes_in v (bare.MoreExprs e es) = size_in v e + sizes_in v es

  links_in : (ℕ → Bool) → Kind → BareLinks → ℕ
  links_in v k bare.NoLinks = 0
  links_in v k (bare.MoreLinks l ls) = link_in v k l + links_in v (link_kind_in l) ls

mutual
  size_seen : (w : Site) (e : Expr) → expr_size w e ≡ size_in (is_virtual w) (bare_expr e)
  size_seen w (expr.StaticElement' p n j q e) = λ i. 1 + size_seen w e i + 5
  size_seen w (expr.Unary' u p e) = λ i. size_seen w e i + unary_size u
  size_seen w (expr.Choose' p t q a r b) = λ i. size_seen w t i + 3 + size_seen w a i + 3 + size_seen w b i
  size_seen w (expr.Set' target p e) = λ i. place_seen w target i + size_seen w e i + keep_seen w target i
  size_seen w (expr.Update' u target p e) =
      λ i. place_seen w target i + before_seen w u.gives target i + size_seen w e i + 1 + behind_seen w u.gives target i
  size_seen w (expr.Call' k m shape args) = λ i. sizes_seen w args i + 3
  size_seen w (expr.Super' k m shape args) = λ i. 2 + sizes_seen w args i + 3
  size_seen w (expr.Chain' p e shape links) =
      (λ i. size_seen w e i + links_seen w (kind_of e) links i)
      ∙ (λ i. size_in (is_virtual w) (bare_expr e) + links_in (is_virtual w) (kind_seen e i) (bare_links links))
  size_seen w e = refl

  place_seen : (w : Site) (p : Place) → place_size w p ≡ place_size_in (is_virtual w) (bare_place p)
  place_seen w (place.Local k j) = refl
  place_seen w (place.Static p j) = refl
  place_seen w (place.Field' p q e j) = size_seen w e
  place_seen w (place.Element' p n q e f r x) = λ i. size_seen w e i + size_seen w x i
  place_seen w (place.StaticElement' p n j q e) = λ i. 1 + size_seen w e i

  link_seen : (w : Site) (k : Kind) (l : Link) → link_size w k l ≡ link_in (is_virtual w) k (bare_link l)
  link_seen w k (link.Binary b e) = λ i. size_seen w e i + 1
  link_seen w k (link.And e) = λ i. 3 + size_seen w e i + 7
  link_seen w k (link.Or e) = λ i. 3 + size_seen w e i + 7
  link_seen w k (link.Element p n j e) = λ i. size_seen w e i + 5
  link_seen w k (link.Byte j e) = λ i. size_seen w e i + 5
  link_seen w k (link.Invoke' result m shape args) = λ i. sizes_seen w args i + invoke_size w m
  link_seen w k (link.TextCall' call shape args) = λ i. sizes_seen w args i + 1
  link_seen w k (link.After e) = λ i. pop_size k + size_seen w e i
  link_seen w k l = refl

  sizes_seen : {n : Count} (w : Site) (es : Row_of-Expr n) → exprs_size w es ≡ sizes_in (is_virtual w) (bare_exprs es)
  sizes_seen w end_of-Expr = refl
  sizes_seen w (more_of-Expr e es) = λ i. size_seen w e i + sizes_seen w es i

  links_seen : {n : Count} (w : Site) (k : Kind) (ls : Row_of-Link n) → links_size w k ls ≡ links_in (is_virtual w) k (bare_links ls)
  links_seen w k end_of-Link = refl
  links_seen w k (more_of-Link l ls) =
      (λ i. link_seen w k l i + links_seen w (link_kind l) ls i)
      ∙ (λ i. link_in (is_virtual w) k (bare_link l) + links_in (is_virtual w) (link_kind_seen l i) (bare_links ls))

-- ---- parts that may be missing

abbrev drop_in : (ℕ → Bool) → BareExpr → ℕ
drop_in v (bare.Set target e) = place_size_in v target + size_in v e + put_size (storage_in target)
drop_in v (bare.Update u target e) = place_size_in v target + fetch_size (storage_in target) + size_in v e + 1 + put_size (storage_in target)
drop_in v e = size_in v e + pop_size (kind_in e)

drop_seen : (w : Site) (e : Expr) → drop_size w e ≡ drop_in (is_virtual w) (bare_expr e)
drop_seen w (expr.Set' target p e) = λ i. place_seen w target i + size_seen w e i + put_seen w target i
drop_seen w (expr.Update' u target p e) = λ i. place_seen w target i + fetch_seen w target i + size_seen w e i + 1 + put_seen w target i
drop_seen w e = λ i. size_seen w e i + pop_size (kind_seen e i)

abbrev begin_in : (ℕ → Bool) → Kind → Option BareExpr → ℕ
begin_in v k None = zero_size k
begin_in v k (Some e) = size_in v e

begin_seen : (w : Site) (k : Kind) (e : Option Expr) → begin_size w k e ≡ begin_in (is_virtual w) k (bare_or e)
begin_seen w k None = refl
begin_seen w k (Some e) = size_seen w e

abbrev test_in : (ℕ → Bool) → Option BareExpr → ℕ
test_in v None = 2
test_in v (Some e) = size_in v e

test_seen : (w : Site) (e : Option Expr) → test_size w e ≡ test_in (is_virtual w) (bare_or e)
test_seen w None = refl
test_seen w (Some e) = size_seen w e

abbrev last_in : (ℕ → Bool) → Option BareExpr → ℕ
last_in v None = 0
last_in v (Some e) = drop_in v e

last_seen : (w : Site) (e : Option Expr) → last_size w e ≡ last_in (is_virtual w) (bare_or e)
last_seen w None = refl
last_seen w (Some e) = drop_seen w e

-- ---- statements

abbrev return_in : (ℕ → Bool) → Option BareExpr → ℕ
return_in v None = 1
return_in v (Some e) = size_in v e + 1

abbrev mutual
  stmt_in : (ℕ → Bool) → BareStmt → ℕ
  stmt_in v bare.Empty = 0
  stmt_in v (bare.Do e) = drop_in v e
  stmt_in v (bare.Begin k i e) = begin_in v k e + 2
  stmt_in v (bare.Block all) = stmts_in v all
  stmt_in v (bare.If t a b) = size_in v t + 3 + stmt_in v a + over_size (stmt_in v b) + stmt_in v b
  stmt_in v (bare.While t body) = 4 + stmt_in v body + size_in v t + 3
  stmt_in v (bare.DoWhile body t) = 1 + stmt_in v body + size_in v t + 3
  stmt_in v (bare.For first t last body) = stmt_in v first + 4 + stmt_in v body + last_in v last + test_in v t + 3
  stmt_in v (bare.Switch e labels all) = size_in v e + 2 + tests_size labels + 3 + stmts_in v all
  stmt_in v bare.Break = 3
  stmt_in v bare.Continue = 3
  stmt_in v (bare.Return e) = return_in v e

  stmts_in : (ℕ → Bool) → BareStmts → ℕ
  stmts_in v bare.NoStmts = 0
  stmts_in v (bare.MoreStmts s ss) = stmt_in v s + stmts_in v ss

mutual
  stmt_seen : (w : Site) (s : Stmt) → stmt_size w s ≡ stmt_in (is_virtual w) (bare_stmt s)
  stmt_seen w stmt.Empty = refl
  stmt_seen w (stmt.Do e) = drop_seen w e
  stmt_seen w (stmt.Local k j e) = λ i. begin_seen w k e i + 2
  stmt_seen w (stmt.Block' shape all) = stmts_seen w all
  stmt_seen w (stmt.If' t p a q b) =
      λ i. size_seen w t i + 3 + stmt_seen w a i + over_size (stmt_seen w b i) + stmt_seen w b i
  stmt_seen w (stmt.While' t p body) = λ i. 4 + stmt_seen w body i + size_seen w t i + 3
  stmt_seen w (stmt.DoWhile' p body t) = λ i. 1 + stmt_seen w body i + size_seen w t i + 3
  stmt_seen w (stmt.For' p first t last q body) =
      λ i. stmt_seen w first i + 4 + stmt_seen w body i + last_seen w last i + test_seen w t i + 3
  stmt_seen w (stmt.Switch' e labels shape all) = λ i. size_seen w e i + 2 + tests_size labels.items + 3 + stmts_seen w all i
  stmt_seen w stmt.Break = refl
  stmt_seen w stmt.Continue = refl
  stmt_seen w (stmt.Return None) = refl
  stmt_seen w (stmt.Return (Some e)) = λ i. size_seen w e i + 1

  stmts_seen : {n : Count} (w : Site) (ss : Row_of-Stmt n) → stmts_size w ss ≡ stmts_in (is_virtual w) (bare_stmts ss)
  stmts_seen w end_of-Stmt = refl
  stmts_seen w (more_of-Stmt s ss) = λ i. stmt_seen w s i + stmts_seen w ss i

-- bodies that are the same wherever they lie have code of one size, where the same methods are virtual
pub stmt_alike : (w v : Site) (s t : Stmt) → ((m : ℕ) → is_virtual w m ≡ is_virtual v m) → bare_stmt s ≡ bare_stmt t → stmt_size w s ≡ stmt_size v t
stmt_alike w v s t virtual same = stmt_seen w s ∙ (λ i. stmt_in (λ m. virtual m i) (same i)) ∙ sym (stmt_seen v t)
